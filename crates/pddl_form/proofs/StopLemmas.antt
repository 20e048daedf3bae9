-- A reading that stops answers its fault.
use Rattle.std.proofs.Common.{◌≡◌, Result, Ok, Bool, false, cond, List, [], ◌∷◌, ◌++◌, reverse, Option, Some, None, Err, ap, sym, ◌∙◌}
use Rattle.std.specs.Option.{MatchOption}
use Rattle.std.proofs.lemmas.List.{reverse-append}
use Rattle.pddl_text.specs.declared.fault.ReadStop.{ReadStop}
use Rattle.pddl_text.specs.declared.fault.ReadStop.TheVariants as stop
use Rattle.pddl_text.specs.declared.fault.TextFault.{TextFault}
use Rattle.pddl_text.specs.declared.place.Place.{Place}
use Rattle.pddl_text.specs.Answers.{IfFault, Gives}
use Rattle.pddl_text.specs.Tokens.{Token}
use Rattle.pddl_form.specs.Readings.{Names}
use Rattle.pddl_form.specs.declared.next.Next.{Next}
use Rattle.pddl_form.specs.declared.parts.Met.{Met}
use Rattle.pddl_form.specs.declared.parts.Part.{Part}
use Rattle.pddl_form.specs.Faults.{fault_at}
use Rattle.pddl_form.specs.Runs.{Run, Stopped, after, goes, noted, run, ends}

pub match_weaker : {T : Type 0} (o : Option T) (P P' : Type 0) (Q Q' : T → Type 0) → (P → P') → ((x : T) → Q x → Q' x) → MatchOption o P Q → MatchOption o P' Q'
match_weaker None P P' Q Q' none some holds = none holds
match_weaker (Some x) P P' Q Q' none some holds = some x holds

-- the part that is due is the last, and doesn't take the token
pub stuck : (due rest new : List Part) (p : Part) (met : List Met) (t : Token) (tokens : List Token) (then : Next) (taken : Bool) → due ≡ rest ++ p ∷ [] → then ≡ after p t → taken ≡ false
    → ((stop : TextFault) (go : List Part → Run) → goes then (reverse rest) stop go ≡ cond taken (go (reverse new)) (Stopped stop)) → run (reverse due) met (t ∷ tokens) ≡ Stopped (fault_at p t tokens)
stuck due rest new p met t tokens then taken is next-is refused puts =
    let go : List Part → Run = λ due. run due (noted p t met) tokens in
    let stop : TextFault = fault_at p t tokens in
    ap (λ (d : List Part). run (reverse d) met (t ∷ tokens)) is
    ∙ ap (λ (d : List Part). run d met (t ∷ tokens)) (reverse-append rest (p ∷ []))
    ∙ ap (λ (n : Next). goes n (reverse rest) stop go) (sym next-is)
    ∙ puts stop go
    ∙ ap (λ (b : Bool). cond b (go (reverse new)) (Stopped stop)) refused

-- a fault is answered that doesn't depend on what follows the list
pub list_fails : (A : Type 0) (answer : ReadStop) (reads : Place → List Token → Run) (due : Place → List Token → TextFault) → ((close : Place) (tokens : List Token) → Names answer (due close tokens))
    → ((close : Place) (tokens : List Token) → reads close tokens ≡ Stopped (due close tokens)) → IfFault {A = A} (Err answer) (λ fault. (close : Place) (tokens : List Token) → reads close tokens ≡ Stopped fault)
list_fails A (stop.Fault fault) reads due names stops = λ close tokens. stops close tokens ∙ ap Stopped (sym (names close tokens))
list_fails A stop.NoMemory reads due names stops = tt

pub if_fault_weaker : {A : Type 0} (result : Result A ReadStop) (P Q : TextFault → Type 0) → ((fault : TextFault) → P fault → Q fault) → IfFault result P → IfFault result Q
if_fault_weaker (Ok value) P Q weaker holds = tt
if_fault_weaker (Err (stop.Fault fault)) P Q weaker holds = weaker fault holds
if_fault_weaker (Err stop.NoMemory) P Q weaker holds = tt

-- a reading that stopped has its fault as its answer
pub gives_stop : (answer : ReadStop) (past : Place) (reads : Run) → IfFault {A = Unit {0}} (Err answer) (λ fault. reads ≡ Stopped fault) → Gives {A = List Met} (Err answer) (ends past reads)
gives_stop (stop.Fault fault) past reads stops = ap (ends past) stops
gives_stop stop.NoMemory past reads stops = tt

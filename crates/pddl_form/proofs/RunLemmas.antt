-- How runs go on, and where they stop.
use Rattle.std.proofs.Common.{◌≡◌, List, [], ◌∷◌, ◌++◌, refl, ap, ◌∙◌}
use Rattle.pddl_text.specs.declared.fault.TextFault.{TextFault}
use Rattle.pddl_text.specs.Tokens.{Token}
use Rattle.pddl_form.specs.declared.next.Next.{Next}
use Rattle.pddl_form.specs.declared.next.Next.TheVariants as next
use Rattle.pddl_form.specs.declared.parts.Met.{Met}
use Rattle.pddl_form.specs.declared.parts.Part.{Part}
use Rattle.pddl_form.specs.Faults.{fault_at}
use Rattle.pddl_form.specs.First.{fault_of}
use Rattle.pddl_form.specs.Runs.{Run, Going, Stopped, after, noted, goes, run}

goes_through : (n : Next) (due : List Part) (f g : TextFault) (go on : List Part → Run) (d : List Part) (m : List Met) (r : Run) → ((then : List Part) → go then ≡ Going d m → on then ≡ r) → goes n due f go ≡ Going d m → goes n due g on ≡ r
goes_through next.Nothing due f g go on d m r more e = more due e
goes_through (next.One p) due f g go on d m r more e = more (p ∷ due) e
goes_through (next.Two p q) due f g go on d m r more e = more (p ∷ q ∷ due) e
goes_through next.Refused due f g go on d m r more e = absurd cc

-- after tokens that it takes, a run goes on from where it is
pub run_on : (due : List Part) (met : List Met) (tokens more : List Token) (d : List Part) (m : List Met) → run due met tokens ≡ Going d m → run due met (tokens ++ more) ≡ run d m more
run_on [] met [] more d m e = let due-is : [] ≡ d = cc in let met-is : met ≡ m = cc in ap (λ (x : List Part). run x met more) due-is ∙ ap (λ (x : List Met). run d x more) met-is
run_on (p ∷ due) met [] more d m e =
    let due-is : p ∷ due ≡ d = cc in
    let met-is : met ≡ m = cc in
    ap (λ (x : List Part). run x met more) due-is ∙ ap (λ (x : List Met). run d x more) met-is
run_on [] met (t ∷ tokens) more d m e = absurd cc
run_on (p ∷ due) met (t ∷ tokens) more d m e =
    goes_through (after p t) due (fault_at p t tokens) (fault_at p t (tokens ++ more)) (λ then. run then (noted p t met) tokens) (λ then. run then (noted p t met) (tokens ++ more)) d m (run d m more)
    (λ then. run_on then (noted p t met) tokens more d m) e

-- nothing is due, or the part that is due doesn't take the token
abbrev pub IsRefused : List Part → Token → Type 0
IsRefused [] t = Unit {0}
IsRefused (p ∷ due) t = after p t ≡ next.Refused

-- where a run stops
pub record Stops (due : List Part) (met : List Met) (tokens : List Token) (found : TextFault) : Type 0 where
  pub before : List Token
  pub token : Token
  pub rest : List Token
  pub split : tokens ≡ before ++ token ∷ rest
  pub due_there : List Part
  pub met_there : List Met
  pub reached : run due met before ≡ Going due_there met_there
  pub refused : IsRefused due_there token
  pub fault : found ≡ fault_of due_there token rest

module _ (p : Part) (due : List Part) (met : List Met) (t : Token) (tokens : List Token) (found : TextFault) where
  later : (then : List Part) → ((f : TextFault) (go : List Part → Run) → goes (after p t) due f go ≡ go then) → Stops then (noted p t met) tokens found → Stops (p ∷ due) met (t ∷ tokens) found
  later then takes stops = record {
    before = t ∷ stops.before;
    token = stops.token;
    rest = stops.rest;
    split = ap (λ (ts : List Token). t ∷ ts) stops.split;
    due_there = stops.due_there;
    met_there = stops.met_there;
    reached = takes (fault_at p t stops.before) (λ due. run due (noted p t met) stops.before) ∙ stops.reached;
    refused = stops.refused;
    fault = stops.fault;
  }

  stops_by : (n : Next) → after p t ≡ n → ((then : List Part) → run then (noted p t met) tokens ≡ Stopped found → Stops then (noted p t met) tokens found)
      → goes n due (fault_at p t tokens) (λ then. run then (noted p t met) tokens) ≡ Stopped found → Stops (p ∷ due) met (t ∷ tokens) found
  stops_by next.Nothing is more e = later due (λ f go. ap (λ (n : Next). goes n due f go) is) (more due e)
  stops_by (next.One q) is more e = later (q ∷ due) (λ f go. ap (λ (n : Next). goes n due f go) is) (more (q ∷ due) e)
  stops_by (next.Two q r) is more e = later (q ∷ r ∷ due) (λ f go. ap (λ (n : Next). goes n due f go) is) (more (q ∷ r ∷ due) e)
  stops_by next.Refused is more e = record {
    before = [];
    token = t;
    rest = tokens;
    split = refl;
    due_there = p ∷ due;
    met_there = met;
    reached = refl;
    refused = is;
    fault = cc;
  }

pub stops : (due : List Part) (met : List Met) (tokens : List Token) (found : TextFault) → run due met tokens ≡ Stopped found → Stops due met tokens found
stops [] met [] found e = absurd cc
stops (p ∷ due) met [] found e = absurd cc
stops [] met (t ∷ tokens) found e = record {
  before = [];
  token = t;
  rest = tokens;
  split = refl;
  due_there = [];
  met_there = met;
  reached = refl;
  refused = tt;
  fault = cc;
}
stops (p ∷ due) met (t ∷ tokens) found e = stops_by p due met t tokens found (after p t) refl (λ then. stops then (noted p t met) tokens found) e

-- where the first token is refused a run stops at once
pub refused_stops : (due : List Part) (met : List Met) (t : Token) (tokens : List Token) → IsRefused due t → run due met (t ∷ tokens) ≡ Stopped (fault_of due t tokens)
refused_stops [] met t tokens refused = refl
refused_stops (p ∷ due) met t tokens refused = ap (λ (n : Next). goes n due (fault_at p t tokens) (λ then. run then (noted p t met) tokens)) refused

-- A reading answers the words of exactly the texts of a grammar, and the first fault of any other
-- forest.
use Rattle.std.proofs.Common.{◌≡◌, true, List, [], ◌∷◌, ◌++◌, Ok, Err, ap, sym, subst, ◌∙◌, refl, append_assoc}
use Rattle.std.specs.List.{list_all}
use Rattle.std.proofs.lemmas.Bool.{and_parts, and_from}
use Rattle.pddl_text.specs.declared.fault.TextFault.{TextFault}
use Rattle.pddl_text.specs.declared.fault.TextRule.TheVariants as rule
use Rattle.pddl_text.specs.declared.place.Place.{Place}
use Rattle.pddl_text.specs.declared.tree.Forest.{Forest}
use Rattle.pddl_text.specs.Forests.{tokens_of_all}
use Rattle.pddl_text.specs.Tokens.{Token}
use Rattle.pddl_text.proofs.ExactLemmas.{IsExact}
use Rattle.pddl_form.specs.declared.next.Next.{Next}
use Rattle.pddl_form.specs.declared.next.Next.TheVariants as next
use Rattle.pddl_form.specs.declared.parts.Met.{Met}
use Rattle.pddl_form.specs.declared.parts.Part.{Part}
use Rattle.pddl_form.specs.Faults.{fault, fault_at}
use Rattle.pddl_form.specs.First.{HasForm, IsText, is_written, GoesOn, Begins, fault_of, IsFirst, IsShort, IsWhole, domain, problem, LeavesForm, at_token, past_end}
use Rattle.pddl_form.specs.Runs.{Run, Going, Stopped, after, noted, goes, run, ends, form_of}
use Rattle.pddl_form.proofs.Meetable.{Meetable, AreMeetable, still_meetable}
use Rattle.pddl_form.proofs.Least.{least, least_meets, least_written}
use Rattle.pddl_form.proofs.RunLemmas.{run_on, IsRefused, stops, refused_stops}

-- ---- what is due can be met

all_written : (one two : List Token) → list_all is_written one ≡ true → list_all is_written two ≡ true → list_all is_written (one ++ two) ≡ true
all_written [] two first second = second
all_written (t ∷ one) two first second =
    let both = and_parts (is_written t) (list_all is_written one) first in
    and_from (is_written t) (list_all is_written (one ++ two)) both.0 (all_written one two both.1 second)

-- tokens after which nothing is due
finish : (due : List Part) (met : List Met) → AreMeetable due → (more : List Token) × (m : List Met) × (run due met more ≡ Going [] m) × (list_all is_written more ≡ true)
finish [] met all = ([], met, refl, refl)
finish (p ∷ due) met all =
    let first = least_meets p due met all.0 in
    let rest = finish due first.0 all.1 in
    (least p ++ rest.0, rest.1, first.1 rest.0 ∙ rest.2, all_written (least p) rest.0 (least_written p) rest.3)

module _ (start : Part) (good : Meetable start) where
  -- a run that goes on can be brought to the end of a text
  pub going_begins : (tokens : List Token) (due : List Part) (met : List Met) → run (start ∷ []) [] tokens ≡ Going due met → GoesOn start tokens
  going_begins tokens due met reached =
      let more = finish due met (still_meetable (start ∷ []) [] tokens due met (good, tt) reached) in
      (more.0, more.3, (more.1, run_on (start ∷ []) [] tokens more.0 due met reached ∙ more.2))

  -- a token that is refused begins no text
  refused_stuck : (before : List Token) (t : Token) (due : List Part) (met : List Met) → run (start ∷ []) [] before ≡ Going due met → IsRefused due t → Begins start (before ++ t ∷ []) → ⊥
  refused_stuck before t due met reached refused (more, (m, text)) =
      let whole : run (start ∷ []) [] (before ++ (t ∷ more)) ≡ Going [] m = ap (run (start ∷ []) []) (sym (append_assoc before (t ∷ []) more)) ∙ text in
      let stopped : run (start ∷ []) [] (before ++ (t ∷ more)) ≡ Stopped (fault_of due t more) = run_on (start ∷ []) [] before (t ∷ more) due met reached ∙ refused_stops due met t more refused in
      absurd cc

  pub stopped_first : (tokens : List Token) (found : TextFault) → run (start ∷ []) [] tokens ≡ Stopped found → IsFirst start tokens found
  stopped_first tokens found is =
      let at = stops (start ∷ []) [] tokens found is in
      record {
        before = at.before;
        token = at.token;
        rest = at.rest;
        split = at.split;
        goes_on = going_begins at.before at.due_there at.met_there at.reached;
        stuck = refused_stuck at.before at.token at.due_there at.met_there at.reached at.refused;
        due = at.due_there;
        met = at.met_there;
        reached = at.reached;
        fault = at.fault;
      }

  -- ---- a reading that stops answers the first fault

  begins : (tokens : List Token) → GoesOn start tokens → Begins start tokens
  begins tokens (more, written, text) = (more, text)

  run_none : (due : List Part) (met : List Met) → run due met [] ≡ Going due met
  run_none [] met = refl
  run_none (p ∷ due) met = refl

  taken : (p : Part) (due then : List Part) (met : List Met) (t : Token) (before : List Token) → run (start ∷ []) [] before ≡ Going (p ∷ due) met
      → ((f : TextFault) (go : List Part → Run) → goes (after p t) due f go ≡ go then) → Begins start (before ++ t ∷ [])
  taken p due then met t before reached takes =
      begins (before ++ t ∷ [])
      (going_begins (before ++ t ∷ []) then (noted p t met)
      (run_on (start ∷ []) [] before (t ∷ []) (p ∷ due) met reached ∙ takes (fault_at p t []) (λ due. run due (noted p t met) []) ∙ run_none then (noted p t met)))

  refused_by : (p : Part) (due : List Part) (met : List Met) (t : Token) (before : List Token) (n : Next) → run (start ∷ []) [] before ≡ Going (p ∷ due) met → (Begins start (before ++ t ∷ []) → ⊥) → after p t ≡ n → after p t ≡ next.Refused
  refused_by p due met t before next.Nothing reached stuck is = absurd (stuck (taken p due due met t before reached (λ f go. ap (λ (n : Next). goes n due f go) is)))
  refused_by p due met t before (next.One q) reached stuck is = absurd (stuck (taken p due (q ∷ due) met t before reached (λ f go. ap (λ (n : Next). goes n due f go) is)))
  refused_by p due met t before (next.Two q r) reached stuck is = absurd (stuck (taken p due (q ∷ r ∷ due) met t before reached (λ f go. ap (λ (n : Next). goes n due f go) is)))
  refused_by p due met t before next.Refused reached stuck is = is

  must_refuse : (due : List Part) (met : List Met) (t : Token) (before : List Token) → run (start ∷ []) [] before ≡ Going due met → (Begins start (before ++ t ∷ []) → ⊥) → IsRefused due t
  must_refuse [] met t before reached stuck = tt
  must_refuse (p ∷ due) met t before reached stuck = refused_by p due met t before (after p t) reached stuck refl

  first_stopped : (tokens : List Token) (found : TextFault) → IsFirst start tokens found → run (start ∷ []) [] tokens ≡ Stopped found
  first_stopped tokens found first =
      ap (run (start ∷ []) []) first.split
      ∙ run_on (start ∷ []) [] first.before (first.token ∷ first.rest) first.due first.met first.reached
      ∙ refused_stops first.due first.met first.token first.rest (must_refuse first.due first.met first.token first.before first.reached first.stuck)
      ∙ ap Stopped (sym first.fault)

  stopped_for_good : (tokens more : List Token) (found : TextFault) (m : List Met) → run (start ∷ []) [] tokens ≡ Stopped found → run (start ∷ []) [] (tokens ++ more) ≡ Going [] m → ⊥
  stopped_for_good tokens more found m is text =
      let at = stops (start ∷ []) [] tokens found is in
      let whole : tokens ++ more ≡ at.before ++ (at.token ∷ (at.rest ++ more)) = ap (λ (ts : List Token). ts ++ more) at.split ∙ append_assoc at.before (at.token ∷ at.rest) more in
      let stopped : run (start ∷ []) [] (tokens ++ more) ≡ Stopped (fault_of at.due_there at.token (at.rest ++ more)) =
      ap (run (start ∷ []) []) whole
      ∙ run_on (start ∷ []) [] at.before (at.token ∷ (at.rest ++ more)) at.due_there at.met_there at.reached
      ∙ refused_stops at.due_there at.met_there at.token (at.rest ++ more) at.refused
      in
      absurd cc

  short_ends : (tokens : List Token) (past : Place) (r : Run) → IsShort start tokens → run (start ∷ []) [] tokens ≡ r → ends past r ≡ Err (fault past rule.Form [])
  short_ends tokens past (Going [] met) short is = absurd (short.unfinished (met, is))
  short_ends tokens past (Going (p ∷ due) met) short is = refl
  short_ends tokens past (Stopped found) short is = absurd (stopped_for_good tokens short.goes_on.0 found short.goes_on.2.0 is short.goes_on.2.1)

  spelled_at : (past : Place) (r : Run) (met : List Met) → ends past r ≡ Ok met → r ≡ Going [] met
  spelled_at past (Going [] m) met e = let same : m ≡ met = cc in ap (Going []) same
  spelled_at past (Going (p ∷ due) m) met e = absurd cc
  spelled_at past (Stopped found) met e = absurd cc

  module _ (forest : Forest) where
    broken : (found : TextFault) → LeavesForm start forest found → form_of start forest ≡ Err found
    broken found (at_token first) = ap (ends forest.past) (first_stopped (tokens_of_all forest.trees) found first)
    broken found (past_end short) = short_ends (tokens_of_all forest.trees) forest.past (run (start ∷ []) [] (tokens_of_all forest.trees)) short refl

    left_at : (r : Run) (found : TextFault) → run (start ∷ []) [] (tokens_of_all forest.trees) ≡ r → ends forest.past r ≡ Err found → LeavesForm start forest found
    left_at (Going [] met) found is e = absurd cc
    left_at (Going (p ∷ due) met) found is e =
        let same : fault forest.past rule.Form [] ≡ found = cc in
        let unfinished : IsText start (tokens_of_all forest.trees) → ⊥ = λ text. let whole = text.1 in absurd cc in
        subst (LeavesForm start forest) same (past_end (record { goes_on = going_begins (tokens_of_all forest.trees) (p ∷ due) met is; unfinished = unfinished }))
    left_at (Stopped f) found is e =
        let same : f ≡ found = cc in
        at_token (stopped_first (tokens_of_all forest.trees) found (is ∙ ap Stopped same))

    -- a reading gives the words of exactly the texts, and the first fault of any other forest
    pub form_exact : IsExact (form_of start forest) (HasForm start (tokens_of_all forest.trees)) (LeavesForm start forest)
    form_exact = record {
      spelled = λ met is. ap (ends forest.past) is;
      is_spelled = λ met is. spelled_at forest.past (run (start ∷ []) [] (tokens_of_all forest.trees)) met is;
      broken = broken;
      is_broken = λ found is. left_at (run (start ∷ []) [] (tokens_of_all forest.trees)) found refl is;
    }

-- a whole text can be met
pub whole_meetable : {start : Part} → IsWhole start → Meetable start
whole_meetable domain = tt
whole_meetable problem = tt

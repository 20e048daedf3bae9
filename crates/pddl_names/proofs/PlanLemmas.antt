-- The lines of a text are exactly the steps that they are read as, and have exactly the first fault at which their reading stops.
use Rattle.std.proofs.Common.{◌≡◌, ℕ, ◌<◌, ◌≤◌, zero, suc, Some, List, [], ◌∷◌, ◌++◌, length, Result, Ok, Err, refl, sym, ap, subst, ◌∙◌, arith, ⊎_elim, append_assoc}
use Rattle.std.specs.Prelude.{All, slice_get}
use Rattle.std.proofs.lemmas.List.Elements.{All-from_recursion}
use Rattle.std.specs.List.{AllByRecursion}
use Rattle.std.proofs.lemmas.Bool.{cases_lt}
use Rattle.std.proofs.lemmas.List.{append-nil}
use Rattle.mre_base.proofs.Options.{same_some}
use Rattle.pddl_text.specs.Answers.{IfFault, Gives}
use Rattle.pddl_text.specs.declared.fault.ReadStop.{ReadStop}
use Rattle.pddl_text.specs.declared.fault.ReadStop.TheVariants as stop
use Rattle.pddl_text.specs.declared.fault.TextFault.{TextFault}
use Rattle.pddl_text.specs.declared.fault.TextRule.{TextRule}
use Rattle.pddl_text.specs.declared.fault.TextRule.TheVariants as rule
use Rattle.pddl_text.specs.declared.plan.PlanLine.{PlanLine}
use Rattle.pddl_text.specs.PlanReading.{lines_of}
use Rattle.pddl_text.specs.Plans.{Words, SpellsPlan, LeavesPlan}
use Rattle.pddl_text.proofs.ExactLemmas.{IsExact}
use Rattle.pddl_text.proofs.FewLemmas.{lines_named, lines_few}
use Rattle.pddl_text.proofs.PlanLemmas.{plan_exact}
use Rattle.model_kit.specs.declared.action.GroundAction.{GroundAction}
use Rattle.model_kit.specs.declared.action.Plan.{Plan}
use Rattle.model_kit.specs.declared.vocabulary.Vocabulary.{Vocabulary}
use Rattle.model_kit.specs.Vocabulary.{IsGroundAction}
use Rattle.pddl_names.specs.PlanNames.{IsStep, IsPlan, end, more, AreNamed, HasWord, Breaks, action, object, arity, type, rank, IsSound, IsFirstIn, IsFirstMisnamed, here, later, IsPlanText, IsFirstFault, form, names}
use Rattle.pddl_names.specs.Reading.{with_value, line_step, steps_from, plan_of, read_of}
use Rattle.pddl_names.proofs.StepLemmas.{step_sound, same_step}
use Rattle.pddl_names.proofs.StopLemmas.{given, failed, ok_inj, err_inj}
use Rattle.pddl_names.proofs.FirstLemmas.{step_read, step_stopped}

-- the rule of names at a place of their order
abbrev rule_at : ℕ → TextRule
rule_at (suc (suc zero)) = rule.Undeclared
rule_at (suc (suc (suc zero))) = rule.WrongArity
rule_at _ = rule.WrongType

module _ (words : Vocabulary) where
  -- ---- a line has one first fault at most

  ranked : {line : Words} {place : ℕ} {broken : TextRule} → Breaks words line place broken → broken ≡ rule_at (rank broken)
  ranked (action name stands none) = refl
  ranked (object place name stands none) = refl
  ranked (arity signature begins apart) = refl
  ranked (type signature place name number above begins at stands named wrong) = refl

  not_before : (line : Words) (one two : TextFault) (first : IsFirstIn words line one) (second : IsFirstIn words line two) → first.place < second.place → ⊥
  not_before line one two first second lt = second.before first.place one.rule lt first.breaks

  same_place : (line : Words) (one two : TextFault) (first : IsFirstIn words line one) (second : IsFirstIn words line two) → first.place ≡ second.place
  same_place line one two first second =
      ⊎_elim (λ lt. absurd (not_before line one two first second lt))
      (λ ge. ⊎_elim (λ lt. absurd (not_before line two one second first lt)) (λ le. omega arith) (cases_lt second.place first.place)) (cases_lt first.place second.place)

  same_rule : (line : Words) (place : ℕ) (one two : TextRule) → Breaks words line place one → Breaks words line place two
      → ((broken : TextRule) → Breaks words line place broken → rank one ≤ rank broken) → ((broken : TextRule) → Breaks words line place broken → rank two ≤ rank broken) → one ≡ two
  same_rule line place one two first second least most =
      let up = least two second in
      let down = most one first in
      let same : rank one ≡ rank two = omega (arith, up, down) in
      ranked first ∙ ap rule_at same ∙ sym (ranked second)

  pub same_first : (line : Words) (one two : TextFault) → IsFirstIn words line one → IsFirstIn words line two → one ≡ two
  same_first line one two first second =
      let places = same_place line one two first second in
      let breaks = subst (λ p. Breaks words line p one.rule) places first.breaks in
      let least = subst (λ p. (broken : TextRule) → Breaks words line p broken → rank one.rule ≤ rank broken) places first.least in
      let rules = same_rule line second.place one.rule two.rule breaks second.breaks least second.least in
      let pair = same_some (one.word, one.at) (two.word, two.at) (sym first.stands ∙ ap (slice_get line) places ∙ second.stands) in
      λ i. record { at = (pair i).1; rule = rules i; word = (pair i).0 }

  -- ---- one line

  named_some : (line : Words) (place : ℕ) (name : List ℕ) → HasWord line place name → 0 < length line
  named_some [] zero name stands = absurd (cc)
  named_some [] (suc place) name stands = absurd (cc)
  named_some (head ∷ rest) place name stands = omega arith

  line_read : (line : Words) (step : GroundAction) → 0 < length line → line_step words line ≡ Ok step → IsStep words line step
  line_read [] step some e = absurd (omega arith)
  line_read (head ∷ rest) step some e = step_read words head rest step e

  line_stopped : (line : Words) (fault : TextFault) → line_step words line ≡ Err fault → IsFirstIn words line fault
  line_stopped [] fault e = absurd (cc)
  line_stopped (head ∷ rest) fault e = step_stopped words head rest fault e

  -- a line of which no word breaks a rule is read to its end
  sound_by : (line : Words) → IsSound words line → (read : Result GroundAction TextFault) → line_step words line ≡ read → (step : GroundAction) × (line_step words line ≡ Ok step)
  sound_by line sound (Ok step) is = (step, is)
  sound_by line sound (Err fault) is = let first = line_stopped line fault is in absurd (sound first.place fault.rule first.breaks)

  line_sound : (line : Words) → IsSound words line → (step : GroundAction) × (line_step words line ≡ Ok step)
  line_sound line sound = sound_by line sound (line_step words line) refl

  step_some : (line : Words) (step : GroundAction) → IsStep words line step → 0 < length line
  step_some line step is = subst (λ (l : Words). 0 < length l) (sym is.parts) (omega arith)

  line_spelled : (line : Words) (step : GroundAction) → IsStep words line step → line_step words line ≡ Ok step
  line_spelled line step is =
      let read = line_sound line (step_sound words line step is) in
      read.1 ∙ ap given (same_step words line read.0 step (line_read line read.0 (step_some line step is) read.1) is)

  broken_by : (line : Words) (fault : TextFault) → IsFirstIn words line fault → (read : Result GroundAction TextFault) → 0 < length line → line_step words line ≡ read → line_step words line ≡ Err fault
  broken_by line fault first (Ok step) some is = absurd (step_sound words line step (line_read line step some is) first.place fault.rule first.breaks)
  broken_by line fault first (Err found) some is = is ∙ ap failed (same_first line found fault (line_stopped line found is) first)

  word_some : (line : Words) (place : ℕ) (word : TextFault) → slice_get line place ≡ Some (word.word, word.at) → 0 < length line
  word_some [] zero word at = absurd (cc)
  word_some [] (suc place) word at = absurd (cc)
  word_some (head ∷ rest) place word at = omega arith

  line_broken : (line : Words) (fault : TextFault) → IsFirstIn words line fault → line_step words line ≡ Err fault
  line_broken line fault first = broken_by line fault first (line_step words line) (word_some line first.place fault first.stands) refl

  -- ---- what is said of lines is read

  plan_read : {lines : List PlanLine} {steps : List GroundAction} → IsPlan words lines steps → (so_far : List GroundAction) → steps_from words so_far lines ≡ given (so_far ++ steps)
  plan_read end so_far = ap given (sym (append-nil so_far))
  plan_read (more {line = line} {lines = lines} {step = step} {steps = steps} is rest) so_far =
      ap (λ read. with_value read (λ found. steps_from words (so_far ++ found ∷ []) lines)) (line_spelled line.words step is)
      ∙ plan_read rest (so_far ++ step ∷ []) ∙ ap given (append_assoc so_far (step ∷ []) steps)

  fault_read : {lines : List PlanLine} {fault : TextFault} → IsFirstMisnamed words lines fault → (so_far : List GroundAction) → steps_from words so_far lines ≡ failed fault
  fault_read (here {line = line} {lines = lines} {fault = fault} first) so_far =
      ap (λ read. with_value read (λ found. steps_from words (so_far ++ found ∷ []) lines)) (line_broken line.words fault first)
  fault_read (later {line = line} {lines = lines} sound rest) so_far =
      let step = line_sound line.words sound in
      ap (λ read. with_value read (λ found. steps_from words (so_far ++ found ∷ []) lines)) step.1 ∙ fault_read rest (so_far ++ step.0 ∷ [])

  -- ---- what is read of lines is so

  first_named : (line : PlanLine) (lines : List PlanLine) → AreNamed (line ∷ lines) → 0 < length line.words
  first_named line lines named = named 0 line (omega arith)

  rest_named : (line : PlanLine) (lines : List PlanLine) → AreNamed (line ∷ lines) → AreNamed lines
  rest_named line lines named place d lt = named (suc place) d (omega arith)

  record PlanRead (lines : List PlanLine) (so_far all : List GroundAction) : Type 0 where
    found : List GroundAction
    all-is : all ≡ so_far ++ found
    are : IsPlan words lines found

  read_then : (line : PlanLine) (lines : List PlanLine) (so_far all : List GroundAction) → 0 < length line.words
      → ((longer : List GroundAction) → steps_from words longer lines ≡ Ok all → PlanRead lines longer all)
      → (read : Result GroundAction TextFault) → line_step words line.words ≡ read
      → with_value read (λ step. steps_from words (so_far ++ step ∷ []) lines) ≡ Ok all → PlanRead (line ∷ lines) so_far all
  read_then line lines so_far all some rest (Err fault) is e = absurd (cc)
  read_then line lines so_far all some rest (Ok step) is e =
      let after = rest (so_far ++ step ∷ []) e in
      record {
        found = step ∷ after.found;
        all-is = after.all-is ∙ append_assoc so_far (step ∷ []) after.found;
        are = more (line_read line.words step some is) after.are;
      }

  read_plan : (lines : List PlanLine) (so_far all : List GroundAction) → AreNamed lines → steps_from words so_far lines ≡ Ok all → PlanRead lines so_far all
  read_plan [] so_far all named e = record { found = []; all-is = sym (ok_inj so_far all e) ∙ sym (append-nil so_far); are = end }
  read_plan (line ∷ lines) so_far all named e =
      read_then line lines so_far all (first_named line lines named) (λ longer. read_plan lines longer all (rest_named line lines named)) (line_step words line.words) refl e

  some_words : {line : Words} {place : ℕ} {broken : TextRule} → Breaks words line place broken → 0 < length line
  some_words {line = line} (action name stands none) = named_some line 0 name stands
  some_words {line = line} (object place name stands none) = named_some line (suc place) name stands
  some_words {line = line} (arity signature begins apart) = named_some line 0 signature.name begins.named
  some_words {line = line} (type signature place name number above begins at stands named wrong) = named_some line 0 signature.name begins.named

  is_sound : (line : Words) (step : GroundAction) → line_step words line ≡ Ok step → IsSound words line
  is_sound [] step e = λ place broken breaks. absurd (omega (arith, some_words breaks))
  is_sound (head ∷ rest) step e = step_sound words (head ∷ rest) step (step_read words head rest step e)

  stopped_then : (line : PlanLine) (lines : List PlanLine) (so_far : List GroundAction) (fault : TextFault)
      → ((longer : List GroundAction) → steps_from words longer lines ≡ Err fault → IsFirstMisnamed words lines fault)
      → (read : Result GroundAction TextFault) → line_step words line.words ≡ read
      → with_value read (λ step. steps_from words (so_far ++ step ∷ []) lines) ≡ Err fault → IsFirstMisnamed words (line ∷ lines) fault
  stopped_then line lines so_far fault rest (Err found) is e =
      here (subst (IsFirstIn words line.words) (err_inj {A = List GroundAction} found fault e) (line_stopped line.words found is))
  stopped_then line lines so_far fault rest (Ok step) is e = later (is_sound line.words step is) (rest (so_far ++ step ∷ []) e)

  read_fault : (lines : List PlanLine) (so_far : List GroundAction) (fault : TextFault) → steps_from words so_far lines ≡ Err fault → IsFirstMisnamed words lines fault
  read_fault [] so_far fault e = absurd (cc)
  read_fault (line ∷ lines) so_far fault e = stopped_then line lines so_far fault (λ longer. read_fault lines longer fault) (line_step words line.words) refl e

  -- ---- lines

  pub steps_exact : (lines : List PlanLine) → AreNamed lines → IsExact (steps_from words [] lines) (IsPlan words lines) (IsFirstMisnamed words lines)
  steps_exact lines named = record {
    spelled = λ steps is. plan_read is [];
    is_spelled = λ steps e. let read = read_plan lines [] steps named e in subst (λ (found : List GroundAction). IsPlan words lines found) (sym read.all-is) read.are;
    broken = λ fault first. fault_read first [];
    is_broken = λ fault. read_fault lines [] fault;
  }

  -- ---- texts

  abbrev made_of : List GroundAction → Plan
  made_of steps = record { steps = steps }

  plan_with : (lines : List PlanLine) (plan : Plan) (read : Result (List GroundAction) TextFault) → steps_from words [] lines ≡ read
      → with_value read (λ steps. Ok (record { steps = steps })) ≡ Ok plan → steps_from words [] lines ≡ Ok plan.steps
  plan_with lines plan (Ok steps) is e =
      let whole : Plan = record { steps = steps } in
      is ∙ ap given (ap (λ (p : Plan). p.steps) (ok_inj whole plan e))
  plan_with lines plan (Err fault) is e = absurd (cc)

  plan_without : (lines : List PlanLine) (fault : TextFault) (read : Result (List GroundAction) TextFault) → steps_from words [] lines ≡ read
      → with_value read (λ steps. Ok (record { steps = steps })) ≡ failed {A = Plan} fault → steps_from words [] lines ≡ Err fault
  plan_without lines fault (Ok steps) is e = absurd (cc)
  plan_without lines fault (Err found) is e = is ∙ ap failed (err_inj {A = Plan} found fault e)

  text_read : (bytes : List ℕ) (plan : Plan) (read : Result (List PlanLine) TextFault) → lines_of bytes ≡ read → with_value read (plan_of words) ≡ Ok plan → IsPlanText words bytes plan
  text_read bytes plan (Err fault) is e = absurd (cc)
  text_read bytes plan (Ok lines) is e =
      let spelled = (plan_exact bytes).is_spelled lines is in
      record {
        lines = lines;
        spelled = spelled;
        steps = (steps_exact lines (lines_named bytes lines spelled)).is_spelled plan.steps (plan_with lines plan (steps_from words [] lines) refl e);
      }

  text_stopped : (bytes : List ℕ) (fault : TextFault) (read : Result (List PlanLine) TextFault) → lines_of bytes ≡ read → with_value read (plan_of words) ≡ Err fault → IsFirstFault words bytes fault
  text_stopped bytes fault (Err found) is e = form ((plan_exact bytes).is_broken fault (is ∙ ap failed (err_inj {A = Plan} found fault e)))
  text_stopped bytes fault (Ok lines) is e =
      let spelled = (plan_exact bytes).is_spelled lines is in
      names lines spelled ((steps_exact lines (lines_named bytes lines spelled)).is_broken fault (plan_without lines fault (steps_from words [] lines) refl e))

  text_spelled : (bytes : List ℕ) (plan : Plan) → IsPlanText words bytes plan → read_of words bytes ≡ Ok plan
  text_spelled bytes plan is =
      ap (λ read. with_value read (plan_of words)) ((plan_exact bytes).spelled is.lines is.spelled)
      ∙ ap (λ read. with_value read (λ steps. given (made_of steps))) (plan_read is.steps [])

  text_broken : (bytes : List ℕ) (fault : TextFault) → IsFirstFault words bytes fault → read_of words bytes ≡ Err fault
  text_broken bytes fault (form leaves) = ap (λ read. with_value read (plan_of words)) ((plan_exact bytes).broken fault leaves)
  text_broken bytes fault (names lines spelled first) =
      ap (λ read. with_value read (plan_of words)) ((plan_exact bytes).spelled lines spelled)
      ∙ ap (λ read. with_value read (λ steps. given (made_of steps))) (fault_read first [])

  pub text_exact : (bytes : List ℕ) → IsExact (read_of words bytes) (IsPlanText words bytes) (IsFirstFault words bytes)
  text_exact bytes = record {
    spelled = text_spelled bytes;
    is_spelled = λ plan. text_read bytes plan (lines_of bytes) refl;
    broken = text_broken bytes;
    is_broken = λ fault. text_stopped bytes fault (lines_of bytes) refl;
  }

  -- the lines of a text are read further
  pub lines_go_on : (bytes : List ℕ) (lines : List PlanLine) → SpellsPlan bytes lines → read_of words bytes ≡ plan_of words lines
  lines_go_on bytes lines spelled = ap (λ read. with_value read (plan_of words)) ((plan_exact bytes).spelled lines spelled)

  -- a text that leaves the form is read no further
  pub form_stops : (bytes : List ℕ) (why : ReadStop) → IfFault {A = List PlanLine} (Err why) (λ fault. LeavesPlan bytes fault) → Gives {A = Plan} (Err why) (read_of words bytes)
  form_stops bytes (stop.Fault fault) leaves = ap (λ read. with_value read (plan_of words)) ((plan_exact bytes).broken fault leaves)
  form_stops bytes stop.NoMemory leaves = tt

  -- ---- what a plan keeps

  steps_fit : {lines : List PlanLine} {steps : List GroundAction} → IsPlan words lines steps → AllByRecursion (IsGroundAction words) steps
  steps_fit end = tt
  steps_fit (more is rest) = (is.fits, steps_fit rest)

  steps_count : {lines : List PlanLine} {steps : List GroundAction} → IsPlan words lines steps → length steps ≡ length lines
  steps_count end = refl
  steps_count (more is rest) = ap suc (steps_count rest)

  pub text_fits : (bytes : List ℕ) (plan : Plan) → IsPlanText words bytes plan → All (IsGroundAction words) plan.steps
  text_fits bytes plan is = All-from_recursion (IsGroundAction words) plan.steps (steps_fit is.steps)

  pub text_few : (bytes : List ℕ) (plan : Plan) → IsPlanText words bytes plan → length plan.steps ≤ length bytes
  text_few bytes plan is = omega (arith, steps_count is.steps, lines_few bytes is.lines is.spelled)

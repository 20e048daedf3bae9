-- The reading of a line gives its step, or the first fault that it has.
use Rattle.std.proofs.Common.{◌≡◌, ℕ, ◌<◌, ◌≤◌, suc, Bool, true, false, Some, None, Option, List, [], ◌∷◌, length, Result, Ok, Err, refl, sym, ap, subst, ◌∙◌, arith}
use Rattle.std.specs.Prelude.{◌==◌, slice_get, if◌then◌else◌}
use Rattle.std.specs.Option.{option_map, option_map_or}
use Rattle.std.specs.Cmp.Lexicographic.{pointwise}
use Rattle.std.proofs.lemmas.Bool.{true≢false, eqb-true, eq-eqb}
use Rattle.mre_base.specs.declared.text.Text.{Text}
use Rattle.mre_base.proofs.Options.{same_some}
use Rattle.pddl_text.specs.declared.fault.TextFault.{TextFault}
use Rattle.pddl_text.specs.declared.fault.TextRule.{TextRule}
use Rattle.pddl_text.specs.declared.fault.TextRule.TheVariants as rule
use Rattle.pddl_text.specs.declared.place.Place.{Place}
use Rattle.pddl_text.specs.Plans.{Words}
use Rattle.model_kit.specs.declared.action.GroundAction.{GroundAction}
use Rattle.model_kit.specs.declared.vocabulary.Signature.{Signature}
use Rattle.model_kit.specs.declared.vocabulary.Vocabulary.{Vocabulary}
use Rattle.model_kit.specs.Vocabulary.{is_object_of}
use Rattle.pddl_names.specs.Numbers.{IsNumberOf, IsUndeclared, number_of, entry_name, word_name}
use Rattle.pddl_names.specs.PlanNames.{AreObjects, IsStep, HasWord, BeginsWith, Breaks, action, object, arity, type, rank, IsFirstIn}
use Rattle.pddl_names.specs.Reading.{broken_at, with_value, with_number, objects_from, params_of, step_with, step_of}
use Rattle.pddl_names.proofs.NumberLemmas.{number_is, number_none, named_entry}
use Rattle.pddl_names.proofs.StepLemmas.{one_object, begun_at, word_there}
use Rattle.pddl_names.proofs.StopLemmas.{ok_inj, err_inj, failed, IsObject, IsWrong, unknown, misfit, objects_read, AllFit, objects_stopped}

module _ (words : Vocabulary) where
  abbrev IsAction : Text × Place → ℕ → Type 0
  IsAction head number = IsNumberOf word_name words.actions head.0 number

  params_at : (schema : ℕ) (signature : Signature) → slice_get words.actions schema ≡ Some signature → params_of words schema ≡ signature.params
  params_at schema signature at = ap (λ (o : Option Signature). option_map_or (λ s. s.params) o []) at

  -- ---- a line that is read to its end

  step_made : (head : Text × Place) (rest : Words) (schema : ℕ) (step : GroundAction) → IsAction head schema → length rest ≡ length (params_of words schema)
      → (read : Result (List ℕ) TextFault) → objects_from words [] rest (params_of words schema) ≡ read
      → with_value read (λ objects. Ok (record { schema = schema; objects = objects })) ≡ Ok step → IsStep words (head ∷ rest) step
  step_made head rest schema step named same (Err fault) is e = absurd (cc)
  step_made head rest schema step named same (Ok objects) is e =
      let made = objects_read words rest (params_of words schema) [] objects same is in
      let entry = named_entry word_name head.0 (slice_get words.actions schema) named in
      let all : objects ≡ made.found = made.all-is in
      let whole : GroundAction = record { schema = schema; objects = objects } in
      subst (IsStep words (head ∷ rest)) (ok_inj whole step e) (record {
        head = head;
        rest = rest;
        parts = refl;
        action = named;
        objects = subst (λ (found : List ℕ). AreObjects words rest found) (sym all) made.are;
        fits =
            ap (λ (o : Option Signature). option_map_or (λ s. pointwise (is_object_of words) objects s.params) o false) entry.1
            ∙ (λ i. pointwise (is_object_of words) (all i) (sym (params_at schema entry.0 entry.1) i)) ∙ made.fit;
      })

  step_checked : (head : Text × Place) (rest : Words) (schema : ℕ) (step : GroundAction) → IsAction head schema → (b : Bool) → (length rest == length (params_of words schema)) ≡ b
      → (if b then with_value (objects_from words [] rest (params_of words schema)) (λ objects. Ok (record { schema = schema; objects = objects })) else Err (broken_at head rule.WrongArity)) ≡ Ok step
      → IsStep words (head ∷ rest) step
  step_checked head rest schema step named false is e = absurd (cc)
  step_checked head rest schema step named true is e =
      step_made head rest schema step named (eqb-true (length rest) (length (params_of words schema)) is) (objects_from words [] rest (params_of words schema)) refl e

  step_found : (head : Text × Place) (rest : Words) (step : GroundAction) (o : Option ℕ) → number_of word_name words.actions head.0 ≡ o → with_number head o (step_with words head rest) ≡ Ok step
      → IsStep words (head ∷ rest) step
  step_found head rest step None is e = absurd (cc)
  step_found head rest step (Some schema) is e =
      step_checked head rest schema step (number_is word_name words.actions head.0 schema is) (length rest == length (params_of words schema)) refl e

  pub step_read : (head : Text × Place) (rest : Words) (step : GroundAction) → step_of words head rest ≡ Ok step → IsStep words (head ∷ rest) step
  step_read head rest step e = step_found head rest step (number_of word_name words.actions head.0) refl e

  -- ---- a line of which nothing declares the action

  least_any : {line : Words} {place : ℕ} {broken : TextRule} → Breaks words line place broken → 2 ≤ rank broken
  least_any (action name stands none) = omega arith
  least_any (object place name stands none) = omega arith
  least_any (arity signature begins apart) = omega arith
  least_any (type signature place name number above begins at stands named wrong) = omega arith

  first_unknown : (head : Text × Place) (rest : Words) → IsUndeclared word_name words.actions head.0 → IsFirstIn words (head ∷ rest) (broken_at head rule.Undeclared)
  first_unknown head rest none = record {
    place = 0;
    stands = refl;
    breaks = action head.0 refl none;
    before = λ earlier broken lt. absurd (omega arith);
    least = λ broken breaks. least_any breaks;
  }

  -- ---- a line with another number of objects than its action takes

  module _ (head : Text × Place) (rest : Words) (schema : ℕ) (named : IsAction head schema) where
    begins_with : (signature : Signature) → slice_get words.actions schema ≡ Some signature → word_name signature ≡ head.0 → BeginsWith words (head ∷ rest) signature
    begins_with signature at is = record { number = schema; declared = at; named = ap Some (sym is) }

    head_rank : {place : ℕ} {broken : TextRule} → Breaks words (head ∷ rest) place broken → place ≡ 0 → 3 ≤ rank broken
    head_rank (action name stands none) first = absurd (none schema (named ∙ stands))
    head_rank (object place name stands none) first = absurd (omega arith)
    head_rank (arity signature begins apart) first = omega arith
    head_rank (type signature place name number above begins at stands its wrong) first = absurd (omega arith)

    first_arity : (length rest ≡ length (params_of words schema) → ⊥) → IsFirstIn words (head ∷ rest) (broken_at head rule.WrongArity)
    first_arity apart =
        let entry = named_entry word_name head.0 (slice_get words.actions schema) named in
        record {
          place = 0;
          stands = refl;
          breaks = arity entry.0 (begins_with entry.0 entry.1 entry.2)
              (λ same. let equal : length rest ≡ length entry.0.params = omega (arith, same) in apart (equal ∙ ap length (sym (params_at schema entry.0 entry.1))));
          before = λ earlier broken lt. absurd (omega arith);
          least = λ broken breaks. head_rank breaks refl;
        }

    -- ---- a line with an object that is undeclared or of another type

    module _ (same : length rest ≡ length (params_of words schema)) (place : ℕ) (before : AllFit words rest (params_of words schema) place) where
      params_same : (signature : Signature) → BeginsWith words (head ∷ rest) signature → params_of words schema ≡ signature.params
      params_same signature begins = params_at schema signature (begun_at words head rest signature begins schema named)

      none_before : {earlier : ℕ} {broken : TextRule} → Breaks words (head ∷ rest) earlier broken → earlier < suc place → ⊥
      none_before (action name stands none) lt = none schema (named ∙ stands)
      none_before (object earlier name stands none) lt =
          let word = word_there words rest earlier name stands in
          let fit = before earlier word.0 (omega arith) word.1 in
          none fit.number (subst (λ (n : List ℕ). IsNumberOf entry_name words.objects n fit.number) word.2 fit.named)
      none_before (arity signature begins apart) lt = apart (ap suc (same ∙ ap length (params_same signature begins)))
      none_before (type signature earlier name number above begins at stands its wrong) lt =
          let word = word_there words rest earlier name stands in
          let fit = before earlier word.0 (omega arith) word.1 in
          let number_same = one_object words name fit.number number (subst (λ (n : List ℕ). IsNumberOf entry_name words.objects n fit.number) word.2 fit.named) its in
          let above_same = same_some fit.above above (sym fit.at_type ∙ ap (λ (types : List ℕ). slice_get types earlier) (params_same signature begins) ∙ at) in
          true≢false (sym fit.fits ∙ (λ i. is_object_of words (number_same i) (above_same i)) ∙ wrong)

      module _ (word : Text × Place) (at_word : slice_get rest place ≡ Some word) where
        word_is : (name : Text) → HasWord rest place name → word.0 ≡ name
        word_is name stands = same_some word.0 name (sym (ap (option_map (λ (w : Text × Place). w.0)) at_word) ∙ stands)

        object_rank : (number : ℕ) → IsObject words word number → {there : ℕ} {broken : TextRule} → Breaks words (head ∷ rest) there broken → there ≡ suc place → 4 ≤ rank broken
        object_rank number its (action name stands none) e = absurd (omega arith)
        object_rank number its (object there name stands none) e =
            let here : there ≡ place = omega arith in
            absurd (none number (subst (λ (n : List ℕ). IsNumberOf entry_name words.objects n number) (word_is name (subst (λ p. HasWord rest p name) here stands)) its))
        object_rank number its (arity signature begins apart) e = absurd (omega arith)
        object_rank number its (type signature there name other above begins at stands found wrong) e = omega arith

        first_object : (above : ℕ) → slice_get (params_of words schema) place ≡ Some above → {broken : TextRule} → IsWrong words word above broken → IsFirstIn words (head ∷ rest) (broken_at word broken)
        first_object above at_type (unknown none) = record {
          place = suc place;
          stands = at_word;
          breaks = object place word.0 (ap (option_map (λ (w : Text × Place). w.0)) at_word) none;
          before = λ earlier broken lt breaks. none_before breaks lt;
          least = λ broken breaks. least_any breaks;
        }
        first_object above at_type (misfit number its wrong) =
            let entry = named_entry word_name head.0 (slice_get words.actions schema) named in
            record {
              place = suc place;
              stands = at_word;
              breaks = type entry.0 place word.0 number above (begins_with entry.0 entry.1 entry.2)
                  (ap (λ (types : List ℕ). slice_get types place) (sym (params_at schema entry.0 entry.1)) ∙ at_type)
                  (ap (option_map (λ (w : Text × Place). w.0)) at_word) its wrong;
              before = λ earlier broken lt breaks. none_before breaks lt;
              least = λ broken breaks. object_rank number its breaks refl;
            }

  -- ---- a line whose reading stops

  objects_fault : (head : Text × Place) (rest : Words) (schema : ℕ) (fault : TextFault) → IsAction head schema → length rest ≡ length (params_of words schema)
      → (read : Result (List ℕ) TextFault) → objects_from words [] rest (params_of words schema) ≡ read
      → with_value read (λ objects. Ok (record { schema = schema; objects = objects })) ≡ failed {A = GroundAction} fault → IsFirstIn words (head ∷ rest) fault
  objects_fault head rest schema fault named same (Ok objects) is e = absurd (cc)
  objects_fault head rest schema fault named same (Err found) is e =
      let stop = objects_stopped words rest (params_of words schema) [] found is in
      subst (IsFirstIn words (head ∷ rest)) (sym stop.stopped.is ∙ err_inj {A = GroundAction} found fault e)
      (first_object head rest schema named same stop.place stop.before stop.word stop.at_word stop.above stop.at_type stop.stopped.why)

  checked_fault : (head : Text × Place) (rest : Words) (schema : ℕ) (fault : TextFault) → IsAction head schema → (b : Bool) → (length rest == length (params_of words schema)) ≡ b
      → (if b then with_value (objects_from words [] rest (params_of words schema)) (λ objects. Ok (record { schema = schema; objects = objects })) else Err (broken_at head rule.WrongArity)) ≡ failed {A = GroundAction} fault
      → IsFirstIn words (head ∷ rest) fault
  checked_fault head rest schema fault named false is e =
      subst (IsFirstIn words (head ∷ rest)) (err_inj {A = GroundAction} (broken_at head rule.WrongArity) fault e)
      (first_arity head rest schema named (λ same. true≢false (sym (eq-eqb (length rest) (length (params_of words schema)) same) ∙ is)))
  checked_fault head rest schema fault named true is e =
      objects_fault head rest schema fault named (eqb-true (length rest) (length (params_of words schema)) is) (objects_from words [] rest (params_of words schema)) refl e

  found_fault : (head : Text × Place) (rest : Words) (fault : TextFault) (o : Option ℕ) → number_of word_name words.actions head.0 ≡ o → with_number head o (step_with words head rest) ≡ Err fault
      → IsFirstIn words (head ∷ rest) fault
  found_fault head rest fault None is e =
      subst (IsFirstIn words (head ∷ rest)) (err_inj {A = GroundAction} (broken_at head rule.Undeclared) fault e) (first_unknown head rest (number_none word_name words.actions head.0 is))
  found_fault head rest fault (Some schema) is e =
      checked_fault head rest schema fault (number_is word_name words.actions head.0 schema is) (length rest == length (params_of words schema)) refl e

  pub step_stopped : (head : Text × Place) (rest : Words) (fault : TextFault) → step_of words head rest ≡ Err fault → IsFirstIn words (head ∷ rest) fault
  step_stopped head rest fault e = found_fault head rest fault (number_of word_name words.actions head.0) refl e

-- The walks over the words of a line and over the lines, by what is left of them.
use Rattle.std.proofs.Common.{◌≡◌, ℕ, ◌+◌, ◌≤◌, Some, List, [], ◌∷◌, ◌++◌, length, drop, Result, Ok, Err, refl, ap, ◌∙◌}
use Rattle.std.specs.Prelude.{slice_get}
use Rattle.std.proofs.lemmas.List.{drop_all}
use Rattle.mre_base.specs.declared.text.Text.{Text}
use Rattle.model_kit.specs.declared.action.GroundAction.{GroundAction}
use Rattle.model_kit.specs.declared.vocabulary.Vocabulary.{Vocabulary}
use Rattle.mre_base.proofs.Loops.{drop_item}
use Rattle.pddl_text.specs.Answers.{Gives}
use Rattle.pddl_text.specs.declared.fault.ReadStop.{ReadStop}
use Rattle.pddl_text.specs.declared.fault.ReadStop.TheVariants as stop
use Rattle.pddl_text.specs.declared.fault.TextFault.{TextFault}
use Rattle.pddl_text.specs.declared.place.Place.{Place}
use Rattle.pddl_text.specs.declared.plan.PlanLine.{PlanLine}
use Rattle.pddl_text.specs.Plans.{Words}
use Rattle.pddl_names.specs.Reading.{with_value, object_at, objects_from, line_step, steps_from}

module _ {A B : Type 0} (read : Result A TextFault) (next : A → Result B TextFault) (due : Result B TextFault) (is : due ≡ with_value read next) where
  -- a value was read, and the reading goes on
  pub value_read : (value : A) → Gives (Ok value) read → due ≡ next value
  value_read value gives = is ∙ ap (λ r. with_value r next) gives

  -- the reading stops
  pub reading_stops : (why : ReadStop) → Gives {A = A} (Err why) read → Gives {A = B} (Err why) due
  reading_stops (stop.Fault fault) gives = is ∙ ap (λ r. with_value r next) gives
  reading_stops stop.NoMemory gives = tt

module _ (words : Vocabulary) (line : Words) (types : List ℕ) (found : List ℕ) (place : ℕ) where
  pub objects_step : (word : Text × Place) (type : ℕ) → slice_get line (place + 1) ≡ Some word → slice_get types place ≡ Some type
      → objects_from words found (drop (place + 1) line) (drop place types)
      ≡ with_value (object_at words word type) (λ object. objects_from words (found ++ object ∷ []) (drop (place + 1 + 1) line) (drop (place + 1) types))
  objects_step word type at_word at_type i = objects_from words found (drop_item line (place + 1) word at_word i) (drop_item types place type at_type i)

  no_types : (rest : Words) → objects_from words found rest [] ≡ Ok found
  no_types [] = refl
  no_types (word ∷ rest) = refl

  pub objects_end : length types ≤ place → objects_from words found (drop (place + 1) line) (drop place types) ≡ Ok found
  objects_end past = ap (objects_from words found (drop (place + 1) line)) (drop_all place types past) ∙ no_types (drop (place + 1) line)

module _ (words : Vocabulary) (lines : List PlanLine) (steps : List GroundAction) (place : ℕ) where
  pub steps_step : (line : PlanLine) → slice_get lines place ≡ Some line
      → steps_from words steps (drop place lines) ≡ with_value (line_step words line.words) (λ step. steps_from words (steps ++ step ∷ []) (drop (place + 1) lines))
  steps_step line at = ap (steps_from words steps) (drop_item lines place line at)

  pub steps_end : length lines ≤ place → steps_from words steps (drop place lines) ≡ Ok steps
  steps_end past = ap (steps_from words steps) (drop_all place lines past)

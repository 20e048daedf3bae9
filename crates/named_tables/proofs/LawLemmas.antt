-- Lists of numbers run in the table of the reachable atoms and actions as lists of ground actions run in the models.
use Rattle.std.proofs.Common.{◌≡◌, ℕ, List, [], ◌∷◌, length, Some, ap, ◌∙◌, arith}
use Rattle.std.specs.Prelude.{◌↔◌, All, slice_get}
use Rattle.std.specs.List.{AllByRecursion}
use Rattle.std.proofs.lemmas.List.Elements.{All-nil, All-cons}
use Rattle.std.proofs.lemmas.Option.{slice_get-get_or}
use Rattle.cube_kit.specs.Cubes.{Told}
use Rattle.model_kit.specs.declared.atom.GroundAtom.{GroundAtom}
use Rattle.model_kit.specs.declared.action.GroundAction.{GroundAction}
use Rattle.model_kit.specs.Vocabulary.{IsGroundAction}
use Rattle.model_kit.specs.Runs as named
use Rattle.task_kit.specs.Tasks as numbered
use Rattle.case_kit.specs.declared.table.CaseTable.{CaseTable}
use Rattle.case_kit.specs.Members.{member}
use Rattle.named_tables.specs.Models.{Models, after_told}
use Rattle.named_tables.specs.Reachable.{Reachable, Action}
use Rattle.named_tables.specs.Numbered.{ListsReachable, AreNumbersOf, IsCheapestIn}
use Rattle.named_tables.specs.Tables.{number_in, IsTableOf}
use Rattle.named_tables.specs.Laws.{RunLaw}
use Rattle.named_tables.proofs.ReachLemmas.{reached_fits, valid_reached}
use Rattle.named_tables.proofs.StepLemmas.{IsModelIn, valid_numbers, cost_numbers, plan_of}
use Rattle.named_tables.proofs.TableLemmas.{model_in}
use Rattle.mre_base.proofs.Listed.{item_contained}

module _ (models : Models) (atoms : List GroundAtom) (actions : List GroundAction) (table : CaseTable) (lists : ListsReachable models atoms actions) (is : IsTableOf models atoms actions table) (told : Told) where
  place_of : (action : GroundAction) → Reachable models (Action action) → (k : ℕ) × (slice_get actions k ≡ Some action)
  place_of action reached = let (k, lt, same) = (lists.each_action action).1 reached in (k, slice_get-get_or actions k action lt ∙ ap Some same)

  numbers_of : (plan : List GroundAction) → AllByRecursion (λ action. Reachable models (Action action)) plan → (list : List ℕ) × AreNumbersOf actions list plan
  numbers_of [] reached = ([], tt)
  numbers_of (action ∷ plan) (reached, rest) =
      let (k, at) = place_of action reached in
      let (list, are) = numbers_of plan rest in
      (k ∷ list, (at, are))

  listed_fit : (list : List ℕ) (plan : List GroundAction) → AreNumbersOf actions list plan → All (IsGroundAction models.words) plan
  listed_fit [] [] are = All-nil (IsGroundAction models.words)
  listed_fit [] (action ∷ plan) are = absurd are
  listed_fit (k ∷ list) [] are = absurd are
  listed_fit (k ∷ list) (action ∷ plan) (at, rest) =
      All-cons (IsGroundAction models.words) action plan (reached_fits models action ((lists.each_action action).0 (item_contained actions k action at))) (listed_fit list plan rest)

  in_numbers : (plan : List GroundAction) → All (IsGroundAction models.words) plan → named.IsValid (after_told models told) plan → (list : List ℕ) × AreNumbersOf actions list plan
  in_numbers plan fits valid = numbers_of plan (valid_reached models told plan fits valid)

  abbrev in_member : IsModelIn (length atoms) (number_in atoms) actions (after_told models told) (member table told)
  in_member = model_in models atoms actions table lists is told

  abbrev sum_named : List GroundAction → ℕ
  sum_named plan = named.cost (after_told models told) plan

  abbrev sum_numbered : List ℕ → ℕ
  sum_numbered list = numbered.cost_of (member table told) list

  costs : (plan : List GroundAction) (list : List ℕ) → AreNumbersOf actions list plan → sum_named plan ≡ sum_numbered list
  costs = cost_numbers (length atoms) (number_in atoms) actions (after_told models told) (member table told) in_member

  valids : (plan : List GroundAction) (list : List ℕ) → AreNumbersOf actions list plan → named.IsValid (after_told models told) plan ↔ numbered.IsValid (member table told) list
  valids = valid_numbers (length atoms) (number_in atoms) actions (after_told models told) (member table told) in_member

  plans : (list : List ℕ) → numbered.IsValid (member table told) list → (plan : List GroundAction) × AreNumbersOf actions list plan × All (IsGroundAction models.words) plan
  plans list valid =
      let (plan, are) = plan_of (length atoms) (number_in atoms) actions (after_told models told) (member table told) in_member list (member table told).start valid in
      (plan, are, listed_fit list plan are)

  -- no valid list costs less here exactly where none does there
  cheapest : (plan : List GroundAction) (list : List ℕ) → AreNumbersOf actions list plan → named.IsCheapest models.words (after_told models told) plan ↔ IsCheapestIn table told list
  cheapest plan list are = (
    λ best. (
      (valids plan list are).0 best.valid,
      λ other valid.
          let (names, others, fits) = plans other valid in
          let less = best.least names fits ((valids names other others).1 valid) in
          omega (arith, less, costs plan list are, costs names other others),
    ),
    λ (valid, best). record {
      valid = (valids plan list are).1 valid;
      least = λ other fits runs.
          let (numbers, others) = in_numbers other fits runs in
          let less = best numbers ((valids other numbers others).0 runs) in
          omega (arith, less, costs plan list are, costs other numbers others);
    },
  )

pub run_law : RunLaw
run_law models atoms actions table lists is told = record {
  listed = in_numbers models atoms actions table lists is told;
  valid = valids models atoms actions table lists is told;
  cost = costs models atoms actions table lists is told;
  of_names = plans models atoms actions table lists is told;
  cheapest = cheapest models atoms actions table lists is told;
}

-- The facts of a table, for each of its parts.
use Rattle.std.proofs.Common.{◌≡◌, ℕ, ◌≤◌, ◌<◌, true, List, get_or, Some, All, arith, subst, inl, inr}
use Rattle.std.specs.Prelude.{Contains, slice_get}
use Rattle.std.proofs.lemmas.Bool.{and_parts, and_from}
use Rattle.std.proofs.lemmas.Bool.Decides.{nat_tests}
use Rattle.std.proofs.lemmas.Option.{slice_get_within, get_or_from_slice_get}
use Rattle.std.proofs.lemmas.List.Elements.{Contains-get_or}
use Rattle.mre_base.proofs.Loops.{All_item}
use Rattle.cube_kit.specs.Cubes.{is_listed}
use Rattle.case_kit.specs.declared.cases.When.{When}
use Rattle.case_kit.specs.declared.cases.When.TheVariants.{Always, IfTold, IfLeft}
use Rattle.case_kit.specs.declared.cases.Case.{Case}
use Rattle.case_kit.specs.declared.costs.CaseValue.{CaseValue}
use Rattle.case_kit.specs.declared.costs.CaseValue.TheVariants as values
use Rattle.case_kit.specs.declared.costs.CaseCost.{CaseCost}
use Rattle.case_kit.specs.declared.costs.CaseCost.TheVariants as costs
use Rattle.case_kit.specs.declared.action.CaseAction.{CaseAction}
use Rattle.case_kit.specs.declared.table.CaseTable.{CaseTable}
use Rattle.case_kit.specs.Sound.{is_listed_in, is_value_listed, is_cost_listed, IsCase, IsCaseAction}
use Rattle.case_kit.proofs.MemberLemmas.{IsOneWay}

more_listed : (d k : ℕ) → d ≤ 256 → is_listed d k ≡ true → is_listed 256 k ≡ true
more_listed d k few h = grind (arith, nat_tests)

pub when_listed : (d : ℕ) (when : When) → d ≤ 256 → is_listed_in d when ≡ true → is_listed_in 256 when ≡ true
when_listed d Always few h = h
when_listed d (IfTold place) few h = more_listed d place few h
when_listed d (IfLeft place) few h = more_listed d place few h

pub value_listed : (d : ℕ) (value : CaseValue) → d ≤ 256 → is_value_listed d value ≡ true → is_value_listed 256 value ≡ true
value_listed d (values.One value) few h = h
value_listed d (values.Two place told left) few h = more_listed d place few h

pub cost_listed : (d : ℕ) (cost : CaseCost) → d ≤ 256 → is_cost_listed d cost ≡ true → is_cost_listed 256 cost ≡ true
cost_listed d (costs.One value) few h = value_listed d value few h
cost_listed d (costs.Two place told left) few h =
    let all = and_parts _ _ h in
    let both = and_parts _ _ all.1 in
    and_from _ _ (more_listed d place few all.0) (and_from _ _ (value_listed d told few both.0) (value_listed d left few both.1))

pub cases_below : (d bound most : ℕ) (cases : List Case) → bound ≤ most → All (IsCase d bound) cases → All (λ case. case.atom < most) cases
cases_below d bound most cases le each k c lt = less (each k c lt).below where
  less : {x : ℕ} → x < bound → x < most
  less below = omega arith

module _ (table : CaseTable) where
  pub action_sound : (i : ℕ) (action : CaseAction) → slice_get table.actions i ≡ Some action → IsCaseAction table.d table.atoms action
  action_sound i action at = All_item table.actions i action at (IsCaseAction table.d table.atoms) table.sound.each

  -- no number is in a part of the table both as a told one and as a left one
  pub start_one_way : IsOneWay table.start
  start_one_way place told left = table.sound.one_way place (inl told) (inl left)

  pub goal_one_way : IsOneWay table.goal
  goal_one_way place told left = table.sound.one_way place (inr (inl told)) (inr (inl left))

  module _ (action : CaseAction) (among : Contains table.actions action) where
    pub pre_one_way : IsOneWay action.pre
    pre_one_way place told left = table.sound.one_way place (inr (inr (action, among, inl told))) (inr (inr (action, among, inl left)))

    pub add_one_way : IsOneWay action.add
    add_one_way place told left = table.sound.one_way place (inr (inr (action, among, inr (inl told)))) (inr (inr (action, among, inr (inl left))))

    pub del_one_way : IsOneWay action.del
    del_one_way place told left = table.sound.one_way place (inr (inr (action, among, inr (inr (inl told))))) (inr (inr (action, among, inr (inr (inl left)))))

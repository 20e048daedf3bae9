-- The costs of a list of actions over a cube: the sum of the least costs, and the sum of the
-- greatest ones. A sum with an absent part is absent, and so above every number.
use Rattle.std.specs.Prelude.{ℕ, ◌+◌, ◌≡◌, true, List, [], ◌∷◌, Option, None, Some}
use Rattle.cube_kit.specs.Cubes.{Told, CubeMeaning, is_member, is_inside}
use Rattle.task_kit.specs.Tasks.{TaskMeaning, cost_at, IsValid, cost_of}
use Rattle.case_kit.specs.declared.table.CaseTable.{CaseTable}
use Rattle.case_kit.specs.Members.{member}
use Rattle.case_kit.specs.Relaxed.{IsNoDearer}
use Rattle.case_kit.specs.Evaluated.{permissive, restrictive}

-- the sum of two costs that may be absent
abbrev pub plus : Option ℕ → Option ℕ → Option ℕ
plus None other = None
plus (Some one) None = None
plus (Some one) (Some other) = Some (one + other)

-- the sum of the costs of a list's actions in a task, repeats counted
abbrev pub sum_of : TaskMeaning → List ℕ → Option ℕ
sum_of task [] = Some 0
sum_of task (action ∷ list) = plus (cost_at task action) (sum_of task list)

-- the list's least and greatest cost over the cube
abbrev pub least_sum : CaseTable → CubeMeaning → List ℕ → Option ℕ
least_sum table cube list = sum_of (permissive table cube) list

abbrev pub greatest_sum : CaseTable → CubeMeaning → List ℕ → Option ℕ
greatest_sum table cube list = sum_of (restrictive table cube) list

-- a valid list has a sum, which is its cost; in each member the cost of a list is between its least
-- and its greatest cost over the cube; and the least and greatest costs over an inner cube are
-- between those over the outer one
pub record SumLaw : Type 0 where
  pub valid : (task : TaskMeaning) (list : List ℕ) → IsValid task list
      → sum_of task list ≡ Some (cost_of task list)
  pub least : (table : CaseTable) (cube : CubeMeaning) (told : Told) (list : List ℕ)
      → is_member cube told ≡ true →
      IsNoDearer (least_sum table cube list) (sum_of (member table told) list)
  pub greatest : (table : CaseTable) (cube : CubeMeaning) (told : Told) (list : List ℕ)
      → is_member cube told ≡ true →
      IsNoDearer (sum_of (member table told) list) (greatest_sum table cube list)
  pub least_inner : (table : CaseTable) (inner outer : CubeMeaning) (list : List ℕ)
      → is_member inner inner.told ≡ true → is_inside inner outer ≡ true →
      IsNoDearer (least_sum table outer list) (least_sum table inner list)
  pub greatest_inner : (table : CaseTable) (inner outer : CubeMeaning) (list : List ℕ)
      → is_member inner inner.told ≡ true → is_inside inner outer ≡ true →
      IsNoDearer (greatest_sum table inner list) (greatest_sum table outer list)

-- Cases for tests: the differences up to a number are of what only the planner's model has, and the
-- others of what only the user's model has.
use Rattle.std.specs.Prelude.{ℕ, ◌+◌, ◌≡◌, ◌<◌, Bool, true, ◌&&◌, nat_le, nat_lt, All}
use Rattle.case_kit.specs.declared.cases.When.{When}
use Rattle.case_kit.specs.declared.cases.When.TheVariants.{Always, IfTold, IfLeft}
use Rattle.case_kit.specs.declared.cases.Case.{Case}
use Rattle.case_kit.specs.declared.action.CaseAction.{CaseAction}
use Rattle.case_kit.specs.Sound.{is_cost_listed, is_apart, is_beside}

-- the condition depends on a difference of its side
abbrev pub is_sided : ℕ → ℕ → When → Bool
is_sided split d Always = true
is_sided split d (IfTold place) = nat_le 1 place && nat_le place split
is_sided split d (IfLeft place) = nat_lt split place && nat_le place d

pub record IsSided (split d bound : ℕ) (case : Case) : Type 0 where
  pub below : case.atom < bound
  pub on_side : is_sided split d case.when ≡ true

pub record IsSidedAction (split d atoms : ℕ) (action : CaseAction) : Type 0 where
  pub pre : All (IsSided split d (atoms + 1)) action.pre
  pub add : All (IsSided split d atoms) action.add
  pub del : All (IsSided split d (atoms + 1)) action.del
  pub known : is_sided split d action.known ≡ true
  pub cost : is_cost_listed d action.cost ≡ true
  pub apart : is_apart action.cost ≡ true
  pub beside : is_beside action.cost action.known ≡ true

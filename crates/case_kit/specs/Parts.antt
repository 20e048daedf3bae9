-- The differences and the numbers in the parts of a case table.
use Rattle.std.specs.Prelude.{ℕ, ◌==◌, Bool, false, ◌||◌, is_some, List}
use Rattle.std.specs.List.{list_any}
use Rattle.case_kit.specs.declared.cases.When.{When}
use Rattle.case_kit.specs.declared.cases.When.TheVariants.{Always, IfTold, IfLeft}
use Rattle.case_kit.specs.declared.cases.Case.{Case}
use Rattle.case_kit.specs.declared.costs.CaseValue.{CaseValue}
use Rattle.case_kit.specs.declared.costs.CaseValue.TheVariants as values
use Rattle.case_kit.specs.declared.costs.CaseCost.{CaseCost}
use Rattle.case_kit.specs.declared.costs.CaseCost.TheVariants as costs
use Rattle.case_kit.specs.declared.action.CaseAction.{CaseAction}

-- the difference is in the value, in the cost
abbrev pub stands_in_value : CaseValue → ℕ → Bool
stands_in_value (values.One value) k = false
stands_in_value (values.Two place told left) k = place == k

abbrev pub stands_in_cost : CaseCost → ℕ → Bool
stands_in_cost (costs.One value) k = stands_in_value value k
stands_in_cost (costs.Two place told left) k =
    place == k || (stands_in_value told k || stands_in_value left k)

-- the value has a number, the cost has a number
abbrev pub has_value : CaseValue → Bool
has_value (values.One value) = is_some value
has_value (values.Two place told left) = is_some told || is_some left

abbrev pub has_cost : CaseCost → Bool
has_cost (costs.One value) = has_value value
has_cost (costs.Two place told left) = has_value told || has_value left

-- the condition depends on the difference
abbrev pub speaks_of : When → ℕ → Bool
speaks_of Always k = false
speaks_of (IfTold place) k = place == k
speaks_of (IfLeft place) k = place == k

-- the difference is in a condition of the cases
abbrev pub stands_among : List Case → ℕ → Bool
stands_among cases k = list_any (λ case. speaks_of case.when k) cases

-- the difference has a part in the action: in a case, in its cost, or in the condition under which
-- it is known
abbrev pub touches : CaseAction → ℕ → Bool
touches action k =
    stands_among action.pre k || (stands_among action.add k
    || (stands_among action.del k || (speaks_of action.known k
    || stands_in_cost action.cost k)))

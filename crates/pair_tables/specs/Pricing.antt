-- Values of functions by differences.
use Rattle.std.specs.Prelude.{ℕ, None}
use Rattle.case_kit.specs.declared.costs.CaseValue.{CaseValue}
use Rattle.case_kit.specs.declared.costs.CaseValue.TheVariants as values
use Rattle.feature_diff.specs.declared.difference.Difference.{Difference}
use Rattle.feature_diff.specs.declared.difference.Difference.TheVariants.{Value}

-- the values in both models, by the difference with this number
abbrev pub worths_of : Difference → ℕ → CaseValue
worths_of (Value function objects planner user) number = values.Two number planner user
worths_of _ number = values.One None

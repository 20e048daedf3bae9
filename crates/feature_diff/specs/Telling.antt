-- Which difference is told of what a model has and the other has not, or has otherwise.
use Rattle.std.specs.Prelude.{ℕ, ◌+◌, ◌*◌, ◌==◌, ◌&&◌, Bool, false, Option, Some, None, List}
use Rattle.std.specs.Prelude.{if◌then◌else◌}
use Rattle.model_kit.specs.declared.atom.GroundAtom.{GroundAtom}
use Rattle.model_kit.specs.declared.atom.SchemaAtom.{SchemaAtom}
use Rattle.model_kit.specs.declared.model.Model.{Model}
use Rattle.model_kit.specs.declared.model.Schema.{Schema}
use Rattle.model_kit.specs.declared.model.CostExpr.{CostExpr}
use Rattle.model_kit.specs.declared.model.CostExpr.TheVariants.{Number, Call}
use Rattle.model_kit.specs.Same.{same_term}
use Rattle.std.specs.Cmp.Lexicographic.{pointwise}
use Rattle.model_kit.specs.Places as place
use Rattle.model_kit.specs.Places.{Place}
use Rattle.feature_diff.specs.declared.difference.Difference.{Difference}
use Rattle.feature_diff.specs.declared.difference.Difference.TheVariants as told
use Rattle.feature_diff.specs.declared.facts.FactKind.{FactKind}
use Rattle.feature_diff.specs.declared.facts.FactKind.TheVariants.{Init, Goal}
use Rattle.feature_diff.specs.declared.schema_parts.SchemaPart.{SchemaPart}
use Rattle.feature_diff.specs.declared.schema_parts.SchemaPart.TheVariants.{Pre, Add, Del}
use Rattle.feature_diff.specs.declared.schema_parts.ActionPart.{ActionPart}

-- the initial facts or the goal facts
abbrev pub facts_of : FactKind → Model → List GroundAtom
facts_of Init model = model.init
facts_of Goal model = model.goal

abbrev pub fact_place : FactKind → GroundAtom → Place
fact_place Init atom = place.Init atom
fact_place Goal atom = place.Goal atom

abbrev pub fact_group : FactKind → ℕ
fact_group Init = 0
fact_group Goal = 1

-- the fact that one model alone has
abbrev pub fact_told : FactKind → GroundAtom → Bool → Difference
fact_told Init atom has = told.Init atom has
fact_told Goal atom has = told.Goal atom has

-- the preconditions, adds or deletes
abbrev pub part_of : SchemaPart → Schema → List SchemaAtom
part_of Pre schema = schema.pre
part_of Add schema = schema.add
part_of Del schema = schema.del

abbrev pub place_in : SchemaPart → ℕ → SchemaAtom → Place
place_in Pre action atom = place.Pre action atom
place_in Add action atom = place.Add action atom
place_in Del action atom = place.Del action atom

abbrev pub group_in : SchemaPart → ℕ → ℕ
group_in Pre action = 3 + 5 * action
group_in Add action = 4 + 5 * action
group_in Del action = 5 + 5 * action

-- the atom that one model's schema alone has
abbrev pub told_in : SchemaPart → ℕ → SchemaAtom → Bool → Difference
told_in Pre action atom has = told.Pre action atom has
told_in Add action atom has = told.Add action atom has
told_in Del action atom has = told.Del action atom has

abbrev pub part_told : ActionPart → SchemaAtom → Bool → Difference
part_told kind = told_in kind.part kind.action

-- the cost expressions are one
abbrev pub same_cost : CostExpr → CostExpr → Bool
same_cost (Number m) (Number n) = m == n
same_cost (Call f args) (Call g others) = (f == g) && pointwise same_term args others
same_cost (Number m) (Call g others) = false
same_cost (Call f args) (Number n) = false

-- the value that one model alone has
abbrev pub value_alone : ℕ × List ℕ × ℕ → Bool → Difference
value_alone v has =
    told.Value v.0 v.1 (if has then Some v.2 else None) (if has then None else Some v.2)

-- the values of both models at the same objects, where they differ
abbrev pub value_both : ℕ × List ℕ × ℕ → ℕ × List ℕ × ℕ → Option Difference
value_both v w = if v.2 == w.2 then None else Some (told.Value v.0 v.1 (Some v.2) (Some w.2))

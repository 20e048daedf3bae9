-- The facts that every domain has: each action has a body that fits its parameters.
use Rattle.std.specs.Prelude.{ℕ, ◌&&◌, Bool, true, List, Option, None, Some}
use Rattle.std.specs.Cmp.Lexicographic.{pointwise}
use Rattle.model_kit.specs.declared.model.CostExpr.{CostExpr}
use Rattle.model_kit.specs.declared.vocabulary.Signature.{Signature}
use Rattle.model_kit.specs.declared.vocabulary.Vocabulary.{Vocabulary}
use Rattle.model_kit.specs.Features.{are_schema_atoms, is_cost}
use Rattle.pddl_models.specs.declared.body.Body.{Body}

-- no increase, or one by a number or a function with terms that fit
abbrev pub is_increase : Vocabulary → List ℕ → Option CostExpr → Bool
is_increase words params None = true
is_increase words params (Some cost) = is_cost words params cost

-- a body of the action with this signature
abbrev pub is_body : Vocabulary → Body → Signature → Bool
is_body words body action =
    are_schema_atoms words action.params body.pre
    && are_schema_atoms words action.params body.add
    && are_schema_atoms words action.params body.del
    && is_increase words action.params body.increase

-- one body for each action, in their order
abbrev pub are_bodies : Vocabulary → List Body → Bool
are_bodies words bodies = pointwise (is_body words) bodies words.actions

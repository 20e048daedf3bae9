use Rattle.std.proofs.Common.{◌≡◌, drop}
use Rattle.std.specs.Cmp.Lexicographic.{pointwise}
use Rattle.model_kit.specs.Features.{is_schema}
use Rattle.model_kit.proofs.checking.are_schemas_of.Given as goal

abbrev pub invariant-loop-place : goal.invariant-loop-place
invariant-loop-place l = pointwise (is_schema l.words) (drop l.place l.schemas) (drop l.place l.words.actions) ≡ pointwise (is_schema l.words) l.schemas l.words.actions

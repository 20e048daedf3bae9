-- Lists that fit a vocabulary are those of a model, where none is unknown.
use Rattle.std.proofs.Common.{◌≡◌, ℕ, ◌&&◌, Bool, true, List, [], map, ap, ◌∙◌}
use Rattle.std.specs.Prelude.{◌==◌}
use Rattle.std.specs.Cmp.Lexicographic.{pointwise}
use Rattle.std.proofs.lemmas.Bool.{and_from}
use Rattle.model_kit.specs.declared.atom.GroundAtom.{GroundAtom}
use Rattle.model_kit.specs.declared.model.Schema.{Schema}
use Rattle.model_kit.specs.declared.vocabulary.Vocabulary.{Vocabulary}
use Rattle.model_kit.specs.Features.{are_ground_atoms, is_schema, is_value, same_key, is_action, is_model}
use Rattle.model_kit.specs.Names.{are_entries}
use Rattle.pddl_models.specs.declared.body.Body.{Body}
use Rattle.pddl_models.specs.Says.{schema_said}

pub all_fit : (words : Vocabulary) (init goal : List GroundAtom) (schemas : List Schema) (values : List (ℕ × List ℕ × ℕ)) (unknown : List ℕ)
    → are_ground_atoms words init ≡ true → are_ground_atoms words goal ≡ true → pointwise (is_schema words) schemas words.actions ≡ true → are_entries (is_value words) same_key values ≡ true → unknown ≡ []
    → is_model words init goal schemas values unknown ≡ true
all_fit words init goal schemas values unknown a b c d none =
    let first = are_ground_atoms words init in
    let second = are_ground_atoms words goal in
    let third = pointwise (is_schema words) schemas words.actions in
    let fourth = are_entries (is_value words) same_key values in
    and_from (first && second && third && fourth) (are_entries (is_action words) ◌==◌ unknown)
    (and_from (first && second && third) fourth (and_from (first && second) third (and_from first second a b) c) d)
    (ap (are_entries (is_action words) ◌==◌) none)

pub metric_schemas : (metric other : Bool) (bodies : List Body) (schemas : List Schema) → metric ≡ other → schemas ≡ map (schema_said metric) bodies → schemas ≡ map (schema_said other) bodies
metric_schemas metric other bodies schemas same is = is ∙ ap (λ m. map (schema_said m) bodies) same

-- The action schemas of two models, each with the conditions on its features.
use Rattle.std.specs.Prelude.{ℕ, ◌≡◌, List, Some, length, slice_get}
use Rattle.model_kit.specs.declared.atom.SchemaAtom.{SchemaAtom}
use Rattle.model_kit.specs.Places.{Pre, Add, Del, Knows, Cost}
use Rattle.model_kit.specs.Differences.{number_from}
use Rattle.named_tables.specs.Models.{Models, EitherHas}
use Rattle.named_tables.specs.Tables.{IsWhen}
use Rattle.pair_tables.specs.declared.schemas.SchemaCases.{SchemaCases}
use Rattle.pair_tables.specs.Featured.{AreFeatures}

-- the cases are those of the schema with this number
pub record IsSchemaCases (models : Models) (schema : ℕ) (cases : SchemaCases) : Type 0 where
  pub pre : AreFeatures models SchemaAtom (Pre schema) cases.pre
  pub add : AreFeatures models SchemaAtom (Add schema) cases.add
  pub del : AreFeatures models SchemaAtom (Del schema) cases.del
  pub known : EitherHas models (Knows schema) → IsWhen models (Knows schema) cases.known
  pub cost : cases.cost ≡ number_from 1 models.places (Cost schema)

-- the cases of the first schemas, by their numbers
pub record AreSchemaCases (models : Models) (count : ℕ) (schemas : List SchemaCases) : Type 0 where
  pub counted : length schemas ≡ count
  pub each : (schema : ℕ) (cases : SchemaCases) → slice_get schemas schema ≡ Some cases
      → IsSchemaCases models schema cases

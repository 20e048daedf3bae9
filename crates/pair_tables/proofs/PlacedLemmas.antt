-- The parameters of an action's features have their objects.
use Rattle.std.proofs.Common.{◌≡◌, Some, List, inl, inr, sym, subst}
use Rattle.std.specs.Prelude.{All, Contains, IsTrue, slice_get}
use Rattle.std.proofs.lemmas.List.Elements.{All-weaker, All-contains, All-contains_itself}
use Rattle.model_kit.specs.declared.model.Model.{Model}
use Rattle.model_kit.specs.declared.model.Schema.{Schema}
use Rattle.model_kit.specs.declared.atom.SchemaAtom.{SchemaAtom}
use Rattle.model_kit.specs.declared.action.GroundAction.{GroundAction}
use Rattle.model_kit.specs.Judging.{ArePlaced}
use Rattle.model_kit.specs.Places.{meaning}
use Rattle.model_kit.specs.Runs.{Has, instance}
use Rattle.model_kit.specs.Vocabulary.{IsGroundAction, is_ground_atom, is_object_of, is_schema_atom}
use Rattle.model_kit.proofs.ActionLemmas.{signature_of, atom_placed, instance_ground, schema_kept}
use Rattle.model_kit.proofs.Fits.{signature_listed}
use Rattle.case_kit.specs.declared.cases.When.{When}
use Rattle.feature_diff.specs.declared.difference.Difference.{Difference}
use Rattle.feature_diff.specs.declared.schema_parts.SchemaPart.{SchemaPart}
use Rattle.feature_diff.specs.declared.schema_parts.SchemaPart.TheVariants.{Pre, Add, Del}
use Rattle.feature_diff.specs.Telling.{part_of, place_in}
use Rattle.pair_rules.specs.Ruled.{models_of}
use Rattle.pair_rules.proofs.RuleLemmas.{schema_there}
use Rattle.pair_tables.specs.Featured.{AreFeatures}
use Rattle.pair_tables.proofs.SchemaLemmas.{part_is}
use Rattle.pair_tables.proofs.TableLemmas.{when_either}

module _ (model : Model) (action : GroundAction) (fits : IsGroundAction model.words action) where
  listed_fits : (schema : Schema) → slice_get model.schemas action.schema ≡ Some schema → (part : SchemaPart) (f : SchemaAtom) → Contains (part_of part schema) f → IsTrue (is_schema_atom model.words (signature_of model action fits).0.params f)
  listed_fits schema at Pre f among = All-contains (λ g. IsTrue (is_schema_atom model.words (signature_of model action fits).0.params g)) schema.pre f (schema_kept model action fits schema at).pre_kept.fit among
  listed_fits schema at Add f among = All-contains (λ g. IsTrue (is_schema_atom model.words (signature_of model action fits).0.params g)) schema.add f (schema_kept model action fits schema at).add_kept.fit among
  listed_fits schema at Del f among = All-contains (λ g. IsTrue (is_schema_atom model.words (signature_of model action fits).0.params g)) schema.del f (schema_kept model action fits schema at).del_kept.fit among

  feature_placed : (part : SchemaPart) (f : SchemaAtom) → Has (meaning model) (place_in part action.schema f) → ArePlaced action.objects f.args
  feature_placed part f has =
      let (schema, at) = schema_there model action.schema (signature_listed (is_object_of model.words) model.words.actions action.schema action.objects fits) in
      atom_placed model action fits f (listed_fits schema at part f ((part_is model action.schema schema at part f).1 has))

  -- with its objects put in, a feature is a ground atom
  pub feature_ground : (part : SchemaPart) (f : SchemaAtom) → Has (meaning model) (place_in part action.schema f) → IsTrue (is_ground_atom model.words (instance action.objects f))
  feature_ground part f has =
      let (schema, at) = schema_there model action.schema (signature_listed (is_object_of model.words) model.words.actions action.schema action.objects fits) in
      instance_ground model action fits f (listed_fits schema at part f ((part_is model action.schema schema at part f).1 has))

module _ (planner user : Model) (joint : user.words ≡ planner.words) (differences : List Difference) (action : GroundAction) (fits : IsGroundAction planner.words action) where
  pub features_placed : (part : SchemaPart) (features : List (SchemaAtom × When)) → AreFeatures (models_of planner user differences) SchemaAtom (place_in part action.schema) features
      → All (λ feature. ArePlaced action.objects feature.0.args) features
  features_placed part features are =
      All-weaker (Contains features) (λ (feature : SchemaAtom × When). ArePlaced action.objects feature.0.args)
      (λ feature among. elim (when_either (models_of planner user differences) (place_in part action.schema feature.0) feature.1 (are.each feature among)) [
        | inl own ↦ feature_placed planner action fits part feature.0 own
        | inr other ↦ feature_placed user action (subst (λ w. IsGroundAction w action) (sym joint) fits) part feature.0 other
      ])
      features (All-contains_itself features)

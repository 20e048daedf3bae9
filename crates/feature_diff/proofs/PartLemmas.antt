-- The differences on preconditions, adds and deletes of an action.
use Rattle.std.proofs.Common.{◌≡◌, ℕ, ◌<◌, ◌^◌, false, Some, None, List, length, refl, sym, ap, subst, ◌∙◌, arith, ⊎_elim, inr}
use Rattle.std.specs.Prelude.{◌⊎◌, IsTrue, All, Contains, slice_get}
use Rattle.std.specs.List.{flat_map, list_any}
use Rattle.std.specs.Option.{option_map_or}
use Rattle.std.proofs.lemmas.List.Elements.{All-contains, All-weaker}
use Rattle.std.proofs.lemmas.Option.{slice_get_within}
use Rattle.model_kit.specs.declared.vocabulary.Vocabulary.{Vocabulary}
use Rattle.model_kit.specs.declared.vocabulary.Signature.{Signature}
use Rattle.model_kit.specs.declared.atom.SchemaAtom.{SchemaAtom}
use Rattle.model_kit.specs.declared.model.Model.{Model}
use Rattle.model_kit.specs.declared.model.Schema.{Schema}
use Rattle.model_kit.specs.Places as place
use Rattle.model_kit.specs.Places.{Place, Feature, meaning}
use Rattle.model_kit.specs.Same.{same_schema_atom}
use Rattle.model_kit.specs.Differences.{group}
use Rattle.model_kit.specs.Printed.{schema_atom_form}
use Rattle.model_kit.specs.Vocabulary.{is_schema_atom, IsSchemaAtom}
use Rattle.model_kit.proofs.Alike.{same_schema_atom-decides}
use Rattle.model_kit.proofs.FormLemmas.{schema_atom_form-injective}
use Rattle.model_kit.proofs.ModelFacts.{SchemaFacts, facts_of_model}
use Rattle.feature_diff.specs.declared.gathered.Gathered.{Gathered}
use Rattle.feature_diff.specs.declared.schema_parts.SchemaPart.{SchemaPart}
use Rattle.feature_diff.specs.declared.schema_parts.SchemaPart.TheVariants.{Pre, Add, Del}
use Rattle.feature_diff.specs.Gathering.{row_told, AllTold}
use Rattle.feature_diff.specs.Parts.{GainsGroup}
use Rattle.feature_diff.specs.Telling.{part_of, place_in, group_in, told_in}
use Rattle.feature_diff.proofs.GroupLemmas.{group_part}
use Rattle.feature_diff.proofs.FeatureLemmas.{AreFeatures, feature_tells}

part_kept : (words : Vocabulary) (params : List ℕ) (schema : Schema) → SchemaFacts words params schema → (part : SchemaPart) → All (λ f. IsTrue (is_schema_atom words params f)) (part_of part schema)
part_kept words params schema facts Pre = facts.pre_kept.fit
part_kept words params schema facts Add = facts.add_kept.fit
part_kept words params schema facts Del = facts.del_kept.fit

-- there is a schema for each action
pub schema_numbered : (words : Vocabulary) (model : Model) → model.words ≡ words → (i : ℕ) → i < length words.actions → i < length model.schemas
schema_numbered words model same i lt = let count : length model.schemas ≡ length words.actions = (facts_of_model model).one_each ∙ ap (λ w. length w.actions) same in omega (arith, count, lt)

-- the atoms of a schema fit the parameters of its action
pub part_fits : (words : Vocabulary) (model : Model) → model.words ≡ words → (i : ℕ) (schema : Schema) (action : Signature) → slice_get model.schemas i ≡ Some schema → slice_get words.actions i ≡ Some action
    → (part : SchemaPart) → All (λ f. IsTrue (is_schema_atom words action.params f)) (part_of part schema)
part_fits words model same i schema action at there part =
    let kept : SchemaFacts model.words action.params schema = (facts_of_model model).schemas_kept i schema action at (subst (λ w. slice_get w.actions i ≡ Some action) (sym same) there) in
    subst (λ w. All (λ f. IsTrue (is_schema_atom w action.params f)) (part_of part schema)) same (part_kept model.words action.params schema kept part)

pub part_atoms : (words : Vocabulary) (params : List ℕ) (fs : List SchemaAtom) → All (λ f. IsTrue (is_schema_atom words params f)) fs → All (IsSchemaAtom words) fs
part_atoms words params fs = All-weaker (λ f. IsTrue (is_schema_atom words params f)) (IsSchemaAtom words) (λ f fit. (params, fit)) fs

atom_at : (words : Vocabulary) (part : SchemaPart) (i : ℕ) (p : Place) → group words p ≡ group_in part i → (f : SchemaAtom) × (p ≡ place_in part i f)
atom_at words Pre i (place.Pre j f) e = let same : j ≡ i = omega (arith, e) in (f, ap (λ n. place.Pre n f) same)
atom_at words Pre i p e = absurd (omega arith)
atom_at words Add i (place.Add j f) e = let same : j ≡ i = omega (arith, e) in (f, ap (λ n. place.Add n f) same)
atom_at words Add i p e = absurd (omega arith)
atom_at words Del i (place.Del j f) e = let same : j ≡ i = omega (arith, e) in (f, ap (λ n. place.Del n f) same)
atom_at words Del i p e = absurd (omega arith)

module _ (planner user : Model) (joint : user.words ≡ planner.words) (i : ℕ) (s t : Schema) (action : Signature) (few : length action.params < 2 ^ 64)
    (at_s : slice_get planner.schemas i ≡ Some s) (at_t : slice_get user.schemas i ≡ Some t) (at_action : slice_get planner.words.actions i ≡ Some action) where
  either_fits : (part : SchemaPart) (f : SchemaAtom) → Contains (part_of part s) f ⊎ Contains (part_of part t) f → IsTrue (is_schema_atom planner.words action.params f)
  either_fits part f there =
      ⊎_elim
      (λ in_p. All-contains (λ b. IsTrue (is_schema_atom planner.words action.params b)) (part_of part s) f (part_fits planner.words planner refl i s action at_s at_action part) in_p)
      (λ in_u. All-contains (λ b. IsTrue (is_schema_atom planner.words action.params b)) (part_of part t) f (part_fits planner.words user joint i t action at_t at_action part) in_u)
      there

  -- what a schema has is what the model has at the action
  schema_means : (model : Model) (r : Schema) → slice_get model.schemas i ≡ Some r → (list : Schema → List SchemaAtom) (f : SchemaAtom)
      → Feature (option_map_or (λ schema. list_any (same_schema_atom f) (list schema)) (slice_get model.schemas i) false) ≡ Feature (list_any (same_schema_atom f) (list r))
  schema_means model r at list f = ap (λ o. Feature (option_map_or (λ schema. list_any (same_schema_atom f) (list schema)) o false)) at

  listed : i < length planner.words.actions
  listed = slice_get_within planner.words.actions i action at_action

  part_features : (part : SchemaPart)
      → AreFeatures planner user (group_in part i) same_schema_atom same_schema_atom-decides (schema_atom_form planner.words) (place_in part i) (told_in part i) (part_of part s) (part_of part t)
  part_features Pre = record {
    printed_as = λ f. refl;
    in_group = λ f. refl;
    placed = λ f has. refl;
    planner_means = λ f. schema_means planner s at_s (λ r. r.pre) f;
    user_means = λ f. schema_means user t at_t (λ r. r.pre) f;
    planner_content_is = λ f has. refl;
    user_content_is = λ f has. refl;
    fits = λ f has there. (listed, (action.params, either_fits Pre f there));
    apart = λ f g in_f in_g e. schema_atom_form-injective planner.words action.params few f g (either_fits Pre f in_f) (either_fits Pre g in_g) e;
    places = λ p e. inr (atom_at planner.words Pre i p e);
  }
  part_features Add = record {
    printed_as = λ f. refl;
    in_group = λ f. refl;
    placed = λ f has. refl;
    planner_means = λ f. schema_means planner s at_s (λ r. r.add) f;
    user_means = λ f. schema_means user t at_t (λ r. r.add) f;
    planner_content_is = λ f has. refl;
    user_content_is = λ f has. refl;
    fits = λ f has there. (listed, (action.params, either_fits Add f there));
    apart = λ f g in_f in_g e. schema_atom_form-injective planner.words action.params few f g (either_fits Add f in_f) (either_fits Add g in_g) e;
    places = λ p e. inr (atom_at planner.words Add i p e);
  }
  part_features Del = record {
    printed_as = λ f. refl;
    in_group = λ f. refl;
    placed = λ f has. refl;
    planner_means = λ f. schema_means planner s at_s (λ r. r.del) f;
    user_means = λ f. schema_means user t at_t (λ r. r.del) f;
    planner_content_is = λ f has. refl;
    user_content_is = λ f has. refl;
    fits = λ f has there. (listed, (action.params, either_fits Del f there));
    apart = λ f g in_f in_g e. schema_atom_form-injective planner.words action.params few f g (either_fits Del f in_f) (either_fits Del g in_g) e;
    places = λ p e. inr (atom_at planner.words Del i p e);
  }

  pub part_gained : (part : SchemaPart) (ps us : List SchemaAtom) → ps ≡ part_of part s → us ≡ part_of part t → (before after : Gathered)
      → AllTold (told_in part i) (λ f g. None) (schema_atom_form planner.words) ps us before after → GainsGroup planner user (group_in part i) before after
  part_gained part ps us e f before after all =
      let told : AllTold (told_in part i) (λ f g. None) (schema_atom_form planner.words) (part_of part s) (part_of part t) before after =
      subst (λ xs. AllTold (told_in part i) (λ f g. None) (schema_atom_form planner.words) xs (part_of part t) before after) e
      (subst (λ ys. AllTold (told_in part i) (λ f g. None) (schema_atom_form planner.words) ps ys before after) f all) in (
        flat_map (row_told (told_in part i) (λ f g. None) (part_of part s) (part_of part t)) told.0,
        group_part planner user (group_in part i) (schema_atom_form planner.words) (place_in part i) (told_in part i) (λ f g. None) (part_of part s) (part_of part t)
            (feature_tells planner user (group_in part i) same_schema_atom same_schema_atom-decides (schema_atom_form planner.words) (place_in part i) (told_in part i) (part_of part s) (part_of part t) (part_features part)) told.0 told.1,
        told.2,
      )

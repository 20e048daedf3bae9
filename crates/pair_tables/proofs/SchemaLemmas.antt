-- The features of facts and of action schemas, and when a schema is known.
use Rattle.std.proofs.Common.{◌≡◌, ℕ, ◌+◌, ◌<◌, Bool, true, false, None, Some, List, [], ◌∷◌, ◌++◌, length, ◌∙◌, inl, inr, sym, ap, subst, arith}
use Rattle.std.specs.Prelude.{◌↔◌, Contains, slice_get}
use Rattle.std.proofs.lemmas.Bool.{true≢false}
use Rattle.std.proofs.lemmas.List.{length_push}
use Rattle.model_kit.specs.declared.model.Model.{Model}
use Rattle.model_kit.specs.declared.model.Schema.{Schema}
use Rattle.model_kit.specs.declared.atom.GroundAtom.{GroundAtom}
use Rattle.model_kit.specs.declared.atom.SchemaAtom.{SchemaAtom}
use Rattle.model_kit.specs.Same.{same_atom}
use Rattle.model_kit.specs.Differences.{number_from}
use Rattle.model_kit.specs.Places.{Feature, Knows, meaning}
use Rattle.model_kit.specs.Runs.{Has, is_on}
use Rattle.model_kit.proofs.Alike.{same_atom-decides}
use Rattle.model_kit.proofs.ModelFacts.{facts_of_model}
use Rattle.model_kit.proofs.StepLemmas.{any_from_listed, listed_from_any}
use Rattle.task_kit.proofs.PlaceLemmas.{push_cases}
use Rattle.case_kit.specs.declared.cases.When.{When}
use Rattle.case_kit.specs.declared.cases.When.TheVariants.{Always, IfTold, IfLeft}
use Rattle.feature_diff.specs.declared.difference.Difference.{Difference}
use Rattle.feature_diff.specs.declared.facts.FactKind.{FactKind}
use Rattle.feature_diff.specs.declared.facts.FactKind.TheVariants.{Init, Goal}
use Rattle.feature_diff.specs.declared.schema_parts.SchemaPart.{SchemaPart}
use Rattle.feature_diff.specs.declared.schema_parts.SchemaPart.TheVariants.{Pre, Add, Del}
use Rattle.feature_diff.specs.Differing.{places_of, AreDifferencesOf}
use Rattle.feature_diff.specs.Telling.{facts_of, fact_place, part_of, place_in}
use Rattle.named_tables.specs.Models.{Models, EitherHas}
use Rattle.named_tables.specs.Tables.{IsWhen}
use Rattle.pair_rules.specs.Ruled.{models_of}
use Rattle.pair_rules.proofs.FeatureLemmas.{part_has, has_part}
use Rattle.pair_tables.specs.declared.schemas.SchemaCases.{SchemaCases}
use Rattle.pair_tables.specs.Featured.{features, AreFeatures}
use Rattle.pair_tables.specs.Schemas.{IsSchemaCases, AreSchemaCases}
use Rattle.pair_tables.proofs.FeatureLemmas.{are_features, agree_at, planner_when_is, user_when_is}

-- the facts and the parts of schemas that a model has are those of its lists
pub fact_is : (model : Model) (kind : FactKind) (f : GroundAtom) → Contains (facts_of kind model) f ↔ Has (meaning model) (fact_place kind f)
fact_is model Init f = (any_from_listed same_atom same_atom-decides f model.init, listed_from_any same_atom same_atom-decides f model.init)
fact_is model Goal f = (any_from_listed same_atom same_atom-decides f model.goal, listed_from_any same_atom same_atom-decides f model.goal)

pub part_is : (model : Model) (action : ℕ) (schema : Schema) → slice_get model.schemas action ≡ Some schema → (part : SchemaPart) (f : SchemaAtom) → Contains (part_of part schema) f ↔ Has (meaning model) (place_in part action f)
part_is model action schema at Pre f = (part_has model action schema at (λ s. s.pre) f, has_part model action schema at (λ s. s.pre) f)
part_is model action schema at Add f = (part_has model action schema at (λ s. s.add) f, has_part model action schema at (λ s. s.add) f)
part_is model action schema at Del f = (part_has model action schema at (λ s. s.del) f, has_part model action schema at (λ s. s.del) f)

-- what holds of a list holds of an equal list
like : {F : Type 0} (list same : List F) (P : F → Type 0) → list ≡ same → ((f : F) → Contains same f ↔ P f) → (f : F) → Contains list f ↔ P f
like list same P is said f = (λ there. (said f).0 (subst (λ l. Contains l f) is there), λ has. subst (λ l. Contains l f) (sym is) ((said f).1 has))

module _ (planner user : Model) (differences : List Difference) (all : AreDifferencesOf planner user differences) where
  abbrev models : Models
  models = models_of planner user differences

  pub facts_are : (kind : FactKind) (own other : List GroundAtom) → own ≡ facts_of kind planner → other ≡ facts_of kind user
      → (made : List (GroundAtom × When)) → made ≡ features (λ f. number_from 1 (places_of differences) (fact_place kind f)) own other → AreFeatures models GroundAtom (fact_place kind) made
  facts_are kind own other own_is other_is made is =
      subst (AreFeatures models GroundAtom (fact_place kind)) (sym is)
      (are_features planner user differences all (fact_place kind) own other
      (like own (facts_of kind planner) (λ f. Has (meaning planner) (fact_place kind f)) own_is (fact_is planner kind))
      (like other (facts_of kind user) (λ f. Has (meaning user) (fact_place kind f)) other_is (fact_is user kind)))

  pub parts_are : (part : SchemaPart) (action : ℕ) (one two : Schema) → slice_get planner.schemas action ≡ Some one → slice_get user.schemas action ≡ Some two
      → (own other : List SchemaAtom) → own ≡ part_of part one → other ≡ part_of part two
      → (made : List (SchemaAtom × When)) → made ≡ features (λ f. number_from 1 (places_of differences) (place_in part action f)) own other → AreFeatures models SchemaAtom (place_in part action) made
  parts_are part action one two one_at two_at own other own_is other_is made is =
      subst (AreFeatures models SchemaAtom (place_in part action)) (sym is)
      (are_features planner user differences all (place_in part action) own other
      (like own (part_of part one) (λ f. Has (meaning planner) (place_in part action f)) own_is (part_is planner action one one_at part))
      (like other (part_of part two) (λ f. Has (meaning user) (place_in part action f)) other_is (part_is user action two two_at part)))

  -- when a model knows a schema, by the number of the difference on that
  module _ (action : ℕ) where
    pub known_both : number_from 1 (places_of differences) (Knows action) ≡ None → EitherHas models (Knows action) → IsWhen models (Knows action) Always
    known_both none has = elim has [
      | inl own ↦ (own, sym (ap is_on (agree_at planner user differences all (Knows action) none)) ∙ own)
      | inr other ↦ (ap is_on (agree_at planner user differences all (Knows action) none) ∙ other, other)
    ]

    module _ (n : ℕ) (is : number_from 1 (places_of differences) (Knows action) ≡ Some n) (own : Bool) (own_is : meaning planner (Knows action) ≡ Feature own) where
      pub known_told : own ≡ true → IsWhen models (Knows action) (IfTold n)
      known_told knows = planner_when_is planner user differences all (Knows action) (Some n) is (ap is_on own_is ∙ knows)

      pub known_left : own ≡ false → EitherHas models (Knows action) → IsWhen models (Knows action) (IfLeft n)
      known_left lacks has = elim has [
        | inl mine ↦ absurd (true≢false (sym mine ∙ ap is_on own_is ∙ lacks))
        | inr theirs ↦ user_when_is planner user differences all (Knows action) n is theirs
      ]

-- each schema of a model's words is there
pub schema_within : (model same : Model) (action : ℕ) → same ≡ model → action < length model.words.actions → action < length same.schemas
schema_within model same action is lt = subst (λ m. action < length m.schemas) (sym is) (let one_each = (facts_of_model model).one_each in omega (arith, lt, one_each))

-- the cases of one more schema
pub schemas_more : (models : Models) (count : ℕ) (old new : List SchemaCases) (cases : SchemaCases) → AreSchemaCases models count old → IsSchemaCases models count cases → new ≡ old ++ cases ∷ [] → AreSchemaCases models (count + 1) new
schemas_more models count old new cases before is now = record {
  counted = ap length now ∙ length_push old cases ∙ ap (λ n. n + 1) before.counted;
  each = λ schema other at. elim (push_cases old cases schema other (sym (ap (λ list. slice_get list schema) now) ∙ at)) [
    | inl earlier ↦ before.each schema other earlier
    | inr (last, same) ↦ subst (λ n. IsSchemaCases models n other) (sym (last ∙ before.counted)) (subst (IsSchemaCases models count) (sym same) is)
  ];
}

-- The schemas of the joint actions, and the model that they make.
use Rattle.std.proofs.Common.{◌≡◌, ℕ, ◌+◌, ◌<◌, ◌≤◌, ◌||◌, zero, suc, true, false, List, [], ◌∷◌, ◌++◌, length, Some, refl, sym, ap, subst, ◌∙◌, arith, ⊎_elim, inl, inr}
use Rattle.std.specs.Prelude.{◌⊎◌, IsTrue, slice_get}
use Rattle.std.specs.Option.{option_map, option_or}
use Rattle.std.proofs.lemmas.Bool.{true≢false, le-ltb, ltb-true, or_cases}
use Rattle.std.proofs.lemmas.List.{length_push}
use Rattle.std.proofs.lemmas.Option.{slice_get_past, slice_get_within}
use Rattle.model_kit.specs.declared.vocabulary.Signature.{Signature}
use Rattle.model_kit.specs.declared.model.Model.{Model}
use Rattle.model_kit.specs.declared.model.Schema.{Schema}
use Rattle.model_kit.specs.Pairs.{names, number_of, is_named}
use Rattle.model_kit.proofs.ModelFacts.{facts_of_model}
use Rattle.joint_models.specs.declared.numbers.Numbers.{Numbers}
use Rattle.joint_models.specs.Renaming.{schema_by, schema_by_name, IsSchemaFor, AreSchemasFor}
use Rattle.joint_models.proofs.Entries.{named_within}

-- one more item at the end
pub last_or_before : {X : Type 0} (xs : List X) (x : X) (n : ℕ) (y : X) → slice_get (xs ++ x ∷ []) n ≡ Some y → (slice_get xs n ≡ Some y) ⊎ ((n ≡ length xs) × (x ≡ y))
last_or_before [] x zero y at = let is : x ≡ y = cc in inr (refl, is)
last_or_before [] x (suc n) y at = absurd (cc)
last_or_before (z ∷ xs) x zero y at = inl at
last_or_before (z ∷ xs) x (suc n) y at = ⊎_elim (λ before. inl before) (λ last. inr (ap suc last.0, last.1)) (last_or_before xs x n y at)

module _ (own : Model) (own_numbers : Numbers) (other : Model) (other_numbers : Numbers) where
  -- the number of an action that the model lacks is past its schemas
  schema_if_named : (model : Model) (name : List ℕ) → is_named model.words.actions name ≡ true → number_of (names model.words.actions) name < length model.schemas
  schema_if_named model name named =
      rw (facts_of_model model).one_each (ltb-true (number_of (names model.words.actions) name) (length model.words.actions) (named_within model.words.actions name ∙ named))

  lacked : (name : List ℕ) → length own.schemas ≤ number_of (names own.words.actions) name → is_named own.words.actions name ≡ false
  lacked name past =
      let far : length own.words.actions ≤ number_of (names own.words.actions) name = rw (← (facts_of_model own).one_each) past in
      sym (named_within own.words.actions name) ∙ le-ltb (number_of (names own.words.actions) name) (length own.words.actions) far

  pub other_has : (name : List ℕ) → length own.schemas ≤ number_of (names own.words.actions) name → IsTrue (is_named own.words.actions name || is_named other.words.actions name) → number_of (names other.words.actions) name < length other.schemas
  other_has name past known =
      ⊎_elim (λ named. absurd (true≢false (sym named ∙ lacked name past))) (λ named. schema_if_named other name named) (or_cases (is_named own.words.actions name) (is_named other.words.actions name) known)

  pub other_schema : (name : List ℕ) → length own.schemas ≤ number_of (names own.words.actions) name → (schema made : Schema) → slice_get other.schemas (number_of (names other.words.actions) name) ≡ Some schema → made ≡ schema_by other_numbers schema
      → IsSchemaFor own own_numbers other other_numbers name made
  other_schema name past schema made at is =
      ap (λ o. option_or (option_map (schema_by own_numbers) o) (schema_by_name other other_numbers name)) (slice_get_past own.schemas (number_of (names own.words.actions) name) past)
      ∙ ap (option_map (schema_by other_numbers)) at ∙ ap Some (sym is)

  pub schemas_more : (actions : List Signature) (schemas : List Schema) (action : Signature) (schema : Schema) → AreSchemasFor own own_numbers other other_numbers actions schemas → IsSchemaFor own own_numbers other other_numbers action.name schema
      → AreSchemasFor own own_numbers other other_numbers (actions ++ action ∷ []) (schemas ++ schema ∷ [])
  schemas_more actions schemas action schema are is = record {
    one_each = length_push schemas schema ∙ ap (λ n. n + 1) are.one_each ∙ sym (length_push actions action);
    each = λ n a s a_at s_at. ⊎_elim
        (λ a_before. ⊎_elim
        (λ s_before. are.each n a s a_before s_before)
        (λ s_last. let within = slice_get_within actions n a a_before in absurd (omega (arith, within, s_last.0, are.one_each)))
        (last_or_before schemas schema n s s_at))
        (λ a_last. ⊎_elim
        (λ s_before. let within = slice_get_within schemas n s s_before in absurd (omega (arith, within, a_last.0, are.one_each)))
        (λ s_last. subst (λ t. IsSchemaFor own own_numbers other other_numbers a.name t) s_last.1 (subst (λ b. IsSchemaFor own own_numbers other other_numbers b.name schema) a_last.1 is))
        (last_or_before schemas schema n s s_at))
        (last_or_before actions action n a a_at);
  }

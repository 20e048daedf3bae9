-- The schemas of two models by the names of their actions, in the numbers of a vocabulary that has all their words.
use Rattle.std.proofs.Common.{◌≡◌, ℕ, ◌<◌, List, [], length, get_or, map, Option, None, Some, refl, sym, ap, subst, ◌∙◌, arith, ⊎_elim}
use Rattle.std.specs.Prelude.{◌≢◌, not, All, IsTrue, slice_get}
use Rattle.std.specs.List.{range_with_len}
use Rattle.std.specs.Option.{option_map, option_map_or, option_or}
use Rattle.std.proofs.lemmas.Bool.{true≢false, lt-ltb, and_parts, cases_lt}
use Rattle.std.proofs.lemmas.List.FromFn.{get_or-range_with_len, length-range_with_len}
use Rattle.std.proofs.lemmas.List.Elements.{All-filter}
use Rattle.std.proofs.lemmas.List.Kept.{AllPairs-filter}
use Rattle.std.proofs.lemmas.Option.{slice_get_past, slice_get_within}
use Rattle.mre_base.proofs.Loops.{All_item}
use Rattle.mre_base.proofs.Listed.{item_at}
use Rattle.model_kit.specs.declared.vocabulary.Vocabulary.{Vocabulary}
use Rattle.model_kit.specs.declared.vocabulary.Signature.{Signature}
use Rattle.model_kit.specs.declared.model.Model.{Model}
use Rattle.model_kit.specs.declared.model.Schema.{Schema}
use Rattle.model_kit.specs.Names.{is_name}
use Rattle.model_kit.specs.Words.{is_signature}
use Rattle.model_kit.specs.Features.{is_action}
use Rattle.model_kit.specs.Printed.{name_of}
use Rattle.model_kit.specs.Pairs.{names, number_of, is_named, type_in, schema_in, schema_named}
use Rattle.model_kit.proofs.Distinct.{ListFacts}
use Rattle.model_kit.proofs.WordFacts.{facts_of_words}
use Rattle.model_kit.proofs.ModelFacts.{SchemaFacts, facts_of_model}
use Rattle.joint_models.specs.declared.group.Group.TheVariants.{Actions}
use Rattle.joint_models.specs.Listed.{entry_named}
use Rattle.joint_models.specs.Renaming.{unknown_among, HasAllOf}
use Rattle.joint_models.proofs.Entries.{entry_has_name, number_is}
use Rattle.joint_models.proofs.Alikeness.{entries_apart}
use Rattle.joint_models.proofs.Mapped.{range_apart}
use Rattle.joint_models.proofs.Keeping.{types_listed, renamed, entry_kept, name_at}
use Rattle.joint_models.proofs.Renumbered.{schema_kept}

-- ---- the schemas of one model

module _ (words : Vocabulary) (model : Model) (whole : HasAllOf words model.words) where
  -- a schema of the model fits the action with its name
  pub named_kept : (n : ℕ) (action : Signature) (schema : Schema) → slice_get words.actions n ≡ Some action → schema_named words model action.name ≡ Some schema → SchemaFacts words action.params schema
  named_kept n action schema at had = by (slice_get model.schemas (number_of (names model.words.actions) action.name)) refl
    where
      by : (o : Option Schema) → slice_get model.schemas (number_of (names model.words.actions) action.name) ≡ o → SchemaFacts words action.params schema
      by None is = absurd (let same : None ≡ Some schema = sym (ap (option_map (schema_in model.words words)) is) ∙ had in cc)
      by (Some original) is =
          let facts = facts_of_model model in
          let within : number_of (names model.words.actions) action.name < length model.words.actions = rw (← facts.one_each) (slice_get_within model.schemas (number_of (names model.words.actions) action.name) original is) in
          let own = item_at model.words.actions (number_of (names model.words.actions) action.name) within in
          let own_named : own.0.name ≡ action.name = entry_has_name model.words.actions action.name own.0 own.1 in
          let own_listed = types_listed Actions model.words (number_of (names model.words.actions) action.name) own.0 own.1 in
          let own_facts = facts.schemas_kept (number_of (names model.words.actions) action.name) original own.0 is own.1 in
          let same : Some (schema_in model.words words original) ≡ Some schema = sym (ap (option_map (schema_in model.words words)) is) ∙ had in
          let made : schema_in model.words words original ≡ schema = cc in
          let there : entry_named words.actions action.name ≡ Some (renamed model.words words own.0) =
          ap (entry_named words.actions) (sym own_named) ∙ entry_kept model.words words whole Actions (number_of (names model.words.actions) action.name) own.0 own.1 in
          let here : entry_named words.actions action.name ≡ Some action = ap (slice_get words.actions) (number_is words.actions (entries_apart Actions words) n action at) ∙ at in
          let actions : Some (renamed model.words words own.0) ≡ Some action = sym there ∙ here in
          let joint : renamed model.words words own.0 ≡ action = cc in
          let params : map (type_in model.words words) own.0.params ≡ action.params = ap (λ s. s.params) joint in
          subst (λ ps. SchemaFacts words ps schema) params
          (subst (SchemaFacts words (map (type_in model.words words) own.0.params)) made (schema_kept model.words words whole own.0.params own_listed original own_facts))

  -- no action is without a name
  pub none_nameless : schema_named words model [] ≡ None
  none_nameless =
      ap (option_map (schema_in model.words words)) (slice_get_past model.schemas (number_of (names model.words.actions) [])
      (⊎_elim
      (λ within. absurd (let at = item_at model.words.actions (number_of (names model.words.actions) []) (omega (arith, within, (facts_of_model model).one_each)) in
      let nameless : at.0.name ≡ [] = entry_has_name model.words.actions [] at.0 at.1 in
      let good = (and_parts (is_name at.0.name) _ (All_item model.words.actions (number_of (names model.words.actions) []) at.0 at.1 (λ s. IsTrue (is_signature model.words.types s)) (facts_of_words model.words).actions_kept.fit)).0 in
      true≢false (sym good ∙ ap is_name nameless)))
      (λ past. past)
      (cases_lt (number_of (names model.words.actions) []) (length model.schemas))))

-- ---- the schemas of two models

module _ (words : Vocabulary) (own other : Model) (own_whole : HasAllOf words own.words) (other_whole : HasAllOf words other.words) where
  -- a model's own schema of an action, and the other's if it lacks the action
  abbrev pub choice : List ℕ → Option Schema
  choice name = option_or (schema_named words own name) (schema_named words other name)

  -- a schema of each action, at its place
  pub record AreChosen (actions : List Signature) (schemas : List Schema) : Type 0 where
    pub one_each : length schemas ≡ length actions
    pub each : (n : ℕ) (action : Signature) (schema : Schema) → slice_get actions n ≡ Some action → slice_get schemas n ≡ Some schema → choice action.name ≡ Some schema

  module _ (schemas : List Schema) (are : AreChosen words.actions schemas) where
    pub schemas_kept : (n : ℕ) (schema : Schema) (action : Signature) → slice_get schemas n ≡ Some schema → slice_get words.actions n ≡ Some action → SchemaFacts words action.params schema
    schemas_kept n schema action schema_at action_at = by (schema_named words own action.name) refl (are.each n action schema action_at schema_at)
      where
        by : (o : Option Schema) → schema_named words own action.name ≡ o → option_or o (schema_named words other action.name) ≡ Some schema → SchemaFacts words action.params schema
        by None is had = named_kept words other other_whole n action schema action_at had
        by (Some made) is had = named_kept words own own_whole n action schema action_at (is ∙ had)

    pub schemas_are : (n : ℕ) → slice_get schemas n ≡ choice (name_of words.actions n)
    schemas_are n =
        ⊎_elim
        (λ within. let action = item_at words.actions n within in
        let schema = item_at schemas n (rw are.one_each within) in
        schema.1 ∙ sym (are.each n action.0 schema.0 action.1 schema.1)
        ∙ ap choice (sym (name_at words.actions n action.0 action.1)))
        (λ past. slice_get_past schemas n (rw are.one_each past)
        ∙ (λ i. option_or (sym (none_nameless words own own_whole) i) (sym (none_nameless words other other_whole) i))
        ∙ ap choice (sym (ap (λ o. option_map_or (λ s. s.name) o []) (slice_get_past words.actions n past))))
        (cases_lt n (length words.actions))

-- the numbers of the unknown actions
pub unknown_fits : (words : Vocabulary) (own : Model) → ListFacts (is_action words) (λ a b. a ≡ b) (unknown_among own.words.actions words.actions)
unknown_fits words own = record {
  fit = All-filter (λ n. not (is_named own.words.actions (name_of words.actions n))) (λ n. IsTrue (is_action words n)) (range_with_len 0 (length words.actions)) each;
  apart = AllPairs-filter (λ a b. a ≢ b) (λ n. not (is_named own.words.actions (name_of words.actions n))) (range_with_len 0 (length words.actions)) (range_apart 0 (length words.actions));
}
  where
    each : All (λ n. IsTrue (is_action words n)) (range_with_len 0 (length words.actions))
    each k d lt =
        let count : k < length words.actions = rw (length-range_with_len 0 (length words.actions)) at lt in
        lt-ltb (get_or (range_with_len 0 (length words.actions)) k d) (length words.actions) (omega (arith, get_or-range_with_len 0 (length words.actions) k d count))

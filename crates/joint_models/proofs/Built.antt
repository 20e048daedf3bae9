-- The lists that are made of two models are those of a model, and that model is the first of them in the numbers of the joint vocabulary.
use Rattle.std.proofs.Common.{◌≡◌, ℕ, ◌<◌, true, List, length, map, Option, Some, None, refl, sym, ap, subst, ◌∙◌}
use Rattle.std.specs.Prelude.{All, slice_get}
use Rattle.std.specs.Option.{option_map, option_or}
use Rattle.std.proofs.lemmas.Option.{slice_get_within}
use Rattle.model_kit.specs.declared.vocabulary.Vocabulary.{Vocabulary}
use Rattle.model_kit.specs.declared.vocabulary.Signature.{Signature}
use Rattle.model_kit.specs.declared.atom.GroundAtom.{GroundAtom}
use Rattle.model_kit.specs.declared.model.Model.{Model}
use Rattle.model_kit.specs.declared.model.Schema.{Schema}
use Rattle.model_kit.specs.Vocabulary.{is_ground_atom}
use Rattle.model_kit.specs.Features.{is_value, is_action, is_model}
use Rattle.model_kit.specs.Pairs.{names, number_of, atom_in, value_in, schema_in, schema_named, IsModelIn}
use Rattle.model_kit.proofs.Distinct.{ListFacts}
use Rattle.model_kit.proofs.ModelFacts.{SchemaFacts, facts_of_model, model_sound}
use Rattle.joint_models.specs.declared.group.Group.TheVariants.{Actions}
use Rattle.joint_models.specs.declared.lists.Lists.{Lists}
use Rattle.joint_models.specs.declared.numbers.Numbers.{Numbers}
use Rattle.joint_models.specs.Renaming.{atom_by, value_by, schema_by, schema_by_name, AreSchemasFor, unknown_among, IsPartOf}
use Rattle.joint_models.proofs.Entries.{entry_has_name}
use Rattle.joint_models.proofs.Keeping.{types_listed}
use Rattle.joint_models.proofs.NamedSchemas.{AreChosen, schemas_kept, schemas_are, unknown_fits}
use Rattle.joint_models.proofs.Renumbered.{atoms_kept, values_kept, atoms_are, values_are, schema_is}
use Rattle.mre_base.proofs.Listed.{item_at}

module _ (words : Vocabulary) (model : Model) (lists : Lists) (numbers : Numbers) (part : IsPartOf words model lists numbers) where
  -- an action of the model with the schema at its place
  pub record Acts (name : List ℕ) (schema : Schema) : Type 0 where
    pub action : Signature
    pub at : slice_get model.words.actions (number_of (names model.words.actions) name) ≡ Some action
    pub named : action.name ≡ name
    pub listed : All (λ t. t < length model.words.types) action.params
    pub facts : SchemaFacts model.words action.params schema

  acts : (name : List ℕ) (schema : Schema) → slice_get model.schemas (number_of (names model.words.actions) name) ≡ Some schema → Acts name schema
  acts name schema at =
      let facts = facts_of_model model in
      let number = number_of (names model.words.actions) name in
      let within : number < length model.words.actions = rw (← facts.one_each) (slice_get_within model.schemas number schema at) in
      let action = item_at model.words.actions number within in
      record {
        action = action.0;
        at = action.1;
        named = entry_has_name model.words.actions name action.0 action.1;
        listed = types_listed Actions model.words number action.0 action.1;
        facts = facts.schemas_kept number schema action.0 at action.1;
      }

  -- a schema by the new numbers is the one in the joint vocabulary
  pub by_name : (name : List ℕ) → schema_by_name model numbers name ≡ schema_named words model name
  by_name name = by (slice_get model.schemas (number_of (names model.words.actions) name)) refl
    where
      by : (o : Option Schema) → slice_get model.schemas (number_of (names model.words.actions) name) ≡ o → option_map (schema_by numbers) o ≡ option_map (schema_in model.words words) o
      by None is = refl
      by (Some schema) is =
          let own = acts name schema is in
          ap Some (schema_is words model lists numbers part own.action.params own.listed schema own.facts)

module _ (words : Vocabulary) (own : Model) (own_lists : Lists) (own_numbers : Numbers) (own_part : IsPartOf words own own_lists own_numbers)
    (other : Model) (other_lists : Lists) (other_numbers : Numbers) (other_part : IsPartOf words other other_lists other_numbers) where
  module _ (schemas : List Schema) (are : AreSchemasFor own own_numbers other other_numbers words.actions schemas) where
    chosen : (n : ℕ) (action : Signature) (schema : Schema) → slice_get words.actions n ≡ Some action → slice_get schemas n ≡ Some schema → option_or (schema_named words own action.name) (schema_named words other action.name) ≡ Some schema
    chosen n action schema action_at schema_at =
        (λ i. option_or (sym (by_name words own own_lists own_numbers own_part action.name) i) (sym (by_name words other other_lists other_numbers other_part action.name) i))
        ∙ are.each n action schema action_at schema_at

    picked : AreChosen words own other own_part.whole other_part.whole words.actions schemas
    picked = record { one_each = are.one_each; each = chosen }

  module _ (init goal : List GroundAtom) (schemas : List Schema) (values : List (ℕ × List ℕ × ℕ)) (unknown : List ℕ)
      (init_is : init ≡ map (atom_by own_numbers) own.init) (goal_is : goal ≡ map (atom_by own_numbers) own.goal) (are : AreSchemasFor own own_numbers other other_numbers words.actions schemas)
      (values_is : values ≡ map (value_by own_numbers) own.values) (unknown_is : unknown ≡ unknown_among own_lists.actions.entries words.actions) where
    init_there : init ≡ map (atom_in own.words words) own.init
    init_there = init_is ∙ atoms_are words own own_lists own_numbers own_part own.init (facts_of_model own).init_kept.fit

    goal_there : goal ≡ map (atom_in own.words words) own.goal
    goal_there = goal_is ∙ atoms_are words own own_lists own_numbers own_part own.goal (facts_of_model own).goal_kept.fit

    values_there : values ≡ map (value_in own.words words) own.values
    values_there = values_is ∙ values_are words own own_lists own_numbers own_part own.values (facts_of_model own).values_kept.fit

    unknown_there : unknown ≡ unknown_among own.words.actions words.actions
    unknown_there = unknown_is ∙ ap (λ as'. unknown_among as' words.actions) own_part.lists_are.actions

    pub built_sound : is_model words init goal schemas values unknown ≡ true
    built_sound =
        let facts = facts_of_model own in
        model_sound words init goal schemas values unknown (record {
          init_kept = subst (ListFacts (is_ground_atom words) (λ a b. a ≡ b)) (sym init_there) (atoms_kept own.words words own_part.whole own.init facts.init_kept);
          goal_kept = subst (ListFacts (is_ground_atom words) (λ a b. a ≡ b)) (sym goal_there) (atoms_kept own.words words own_part.whole own.goal facts.goal_kept);
          one_each = are.one_each;
          schemas_kept = schemas_kept words own other own_part.whole other_part.whole schemas (picked schemas are);
          values_kept = subst (ListFacts (is_value words) (λ v w. (v.0 ≡ w.0) × (v.1 ≡ w.1))) (sym values_there) (values_kept own.words words own_part.whole own.values facts.values_kept);
          unknown_kept = subst (ListFacts (is_action words) (λ a b. a ≡ b)) (sym unknown_there) (unknown_fits words own);
        })

    -- the model of these lists
    pub built_is : (result : Model) → result.words ≡ words → result.init ≡ init → result.goal ≡ goal → result.schemas ≡ schemas → result.values ≡ values → result.unknown ≡ unknown → IsModelIn words own other result
    built_is result words_is result_init result_goal result_schemas result_values result_unknown = record {
      words_are = words_is;
      init = result_init ∙ init_there;
      goal = result_goal ∙ goal_there;
      schemas = λ n. ap (λ ss. slice_get ss n) result_schemas ∙ schemas_are words own other own_part.whole other_part.whole schemas (picked schemas are) n;
      values = result_values ∙ values_there;
      unknown = result_unknown ∙ unknown_there;
    }

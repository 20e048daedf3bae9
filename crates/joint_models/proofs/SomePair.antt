-- Two models that agree have a pair in the numbers of their joint vocabulary.
use Rattle.std.proofs.Common.{◌≡◌, ℕ, ◌<◌, ◌||◌, true, List, [], ◌∷◌, length, map, Option, None, Some, refl, sym, ap, ◌∙◌, ⊎_elim, zero, suc}
use Rattle.std.specs.Prelude.{IsTrue, slice_get}
use Rattle.std.specs.Option.{option_map, option_or}
use Rattle.std.proofs.lemmas.Bool.{ltb-true, or_cases}
use Rattle.std.proofs.lemmas.List.Elements.{All-head, All-tail}
use Rattle.mre_base.proofs.Listed.{item_at}
use Rattle.model_kit.specs.declared.vocabulary.Vocabulary.{Vocabulary}
use Rattle.model_kit.specs.declared.vocabulary.Signature.{Signature}
use Rattle.model_kit.specs.declared.model.Model.{Model}
use Rattle.model_kit.specs.declared.model.Schema.{Schema}
use Rattle.model_kit.specs.Features.{is_model}
use Rattle.model_kit.specs.Pairs.{Agree, names, number_of, is_named, atom_in, value_in, schema_in, schema_named, IsJoint, IsModelIn, ArePaired}
use Rattle.model_kit.proofs.ModelFacts.{facts_of_model, model_sound}
use Rattle.joint_models.specs.Renaming.{unknown_among, HasAll, HasAllOf}
use Rattle.joint_models.proofs.Entries.{named_within}
use Rattle.joint_models.proofs.Renumbered.{atoms_kept, values_kept}
use Rattle.joint_models.proofs.Joint.{joint_of, joint_sound, planner_whole, user_whole, actions_known, actions_known_turned}
use Rattle.joint_models.proofs.Paired.{paired}
use Rattle.joint_models.proofs.NamedSchemas.{choice, AreChosen, schemas_kept, schemas_are, unknown_fits}

-- ---- a model in the numbers of a vocabulary that has all words of two

-- a model has a schema of each action that it names
has_schema : (words : Vocabulary) (model : Model) (name : List ℕ) → is_named model.words.actions name ≡ true → (schema : Schema) × (schema_named words model name ≡ Some schema)
has_schema words model name named =
    let within : number_of (names model.words.actions) name < length model.schemas =
    rw (facts_of_model model).one_each (ltb-true (number_of (names model.words.actions) name) (length model.words.actions) (named_within model.words.actions name ∙ named)) in
    let at = item_at model.schemas (number_of (names model.words.actions) name) within in
    (schema_in model.words words at.0, ap (option_map (schema_in model.words words)) at.1)

module _ (words : Vocabulary) (own other : Model) (own_whole : HasAllOf words own.words) (other_whole : HasAllOf words other.words) (known : HasAll own.words.actions other.words.actions words.actions) where
  abbrev Choice : List ℕ → Option Schema
  Choice = choice words own other own_whole other_whole

  has_choice : (name : List ℕ) → IsTrue (is_named own.words.actions name || is_named other.words.actions name) → (schema : Schema) × (Choice name ≡ Some schema)
  has_choice name one =
      ⊎_elim
      (λ first. let s = has_schema words own name first in (s.0, ap (λ o. option_or o (schema_named words other name)) s.1))
      (λ second. by (schema_named words own name) refl (has_schema words other name second))
      (or_cases (is_named own.words.actions name) (is_named other.words.actions name) one)
    where
      by : (o : Option Schema) → schema_named words own name ≡ o → ((schema : Schema) × (schema_named words other name ≡ Some schema)) → (schema : Schema) × (Choice name ≡ Some schema)
      by None is second = (second.0, ap (λ o. option_or o (schema_named words other name)) is ∙ second.1)
      by (Some schema) is second = (schema, ap (λ o. option_or o (schema_named words other name)) is)

  abbrev Chosen : List Signature → List Schema → Type 0
  Chosen = AreChosen words own other own_whole other_whole

  chosen : (actions : List Signature) → HasAll own.words.actions other.words.actions actions → (schemas : List Schema) × Chosen actions schemas
  chosen [] all = ([], record { one_each = refl; each = λ n action schema at there. absurd (cc) })
  chosen (a ∷ actions) all =
      more (has_choice a.name (All-head (λ action. IsTrue (is_named own.words.actions action.name || is_named other.words.actions action.name)) a actions all))
      (chosen actions (All-tail (λ action. IsTrue (is_named own.words.actions action.name || is_named other.words.actions action.name)) a actions all))
    where
      more : ((schema : Schema) × (Choice a.name ≡ Some schema)) → ((schemas : List Schema) × Chosen actions schemas) → (schemas : List Schema) × Chosen (a ∷ actions) schemas
      more here rest = (here.0 ∷ rest.0, record { one_each = ap suc rest.1.one_each; each = at })
        where
          at : (n : ℕ) (action : Signature) (schema : Schema) → slice_get (a ∷ actions) n ≡ Some action → slice_get (here.0 ∷ rest.0) n ≡ Some schema → Choice action.name ≡ Some schema
          at zero action schema a_is s_is =
              let same : a ≡ action = cc in
              let made : here.0 ≡ schema = cc in
              ap (λ (b : Signature). Choice b.name) (sym same) ∙ here.1 ∙ ap Some made
          at (suc n) action schema a_is s_is = rest.1.each n action schema a_is s_is

  abbrev schemas : List Schema
  schemas = (chosen words.actions known).0

  are : Chosen words.actions schemas
  are = (chosen words.actions known).1

  sound : is_model words (map (atom_in own.words words) own.init) (map (atom_in own.words words) own.goal) schemas (map (value_in own.words words) own.values) (unknown_among own.words.actions words.actions) ≡ true
  sound =
      let facts = facts_of_model own in
      model_sound words (map (atom_in own.words words) own.init) (map (atom_in own.words words) own.goal) schemas (map (value_in own.words words) own.values) (unknown_among own.words.actions words.actions) (record {
        init_kept = atoms_kept own.words words own_whole own.init facts.init_kept;
        goal_kept = atoms_kept own.words words own_whole own.goal facts.goal_kept;
        one_each = are.one_each;
        schemas_kept = schemas_kept words own other own_whole other_whole schemas are;
        values_kept = values_kept own.words words own_whole own.values facts.values_kept;
        unknown_kept = unknown_fits words own;
      })

  model_in : (result : Model) × IsModelIn words own other result
  model_in = (
    record {
      words = words;
      init = map (atom_in own.words words) own.init;
      goal = map (atom_in own.words words) own.goal;
      schemas = schemas;
      values = map (value_in own.words words) own.values;
      unknown = unknown_among own.words.actions words.actions;
      sound = sound;
    },
    record { words_are = refl; init = refl; goal = refl; schemas = schemas_are words own other own_whole other_whole schemas are; values = refl; unknown = refl },
  )

-- ---- two models

module _ (planner user : Model) (planner_known : planner.unknown ≡ []) (user_known : user.unknown ≡ []) (agree : Agree planner.words user.words) where
  words_of : (words : Vocabulary) × IsJoint planner.words user.words words
  words_of = (
    record {
      types = planner.words.types;
      objects = planner.words.objects;
      predicates = joint_of planner.words user.words agree planner.words.predicates user.words.predicates;
      functions = joint_of planner.words user.words agree planner.words.functions user.words.functions;
      actions = joint_of planner.words user.words agree planner.words.actions user.words.actions;
      sound = joint_sound planner.words user.words agree;
    },
    record { types = refl; objects = refl; predicates = refl; functions = refl; actions = refl },
  )

  pub some_pair : (joint_planner : Model) × (joint_user : Model) × ArePaired planner user joint_planner.words joint_planner joint_user
  some_pair =
      let w = words_of.0 in
      let joint = words_of.1 in
      let one_whole = planner_whole planner.words user.words agree w joint in
      let two_whole = user_whole planner.words user.words agree w joint in
      let one = model_in w planner user one_whole two_whole (actions_known planner.words user.words agree w joint) in
      let two = model_in w user planner two_whole one_whole (actions_known_turned planner.words user.words agree w joint) in
      (one.0, two.0, paired planner user w w one.0 two.0 planner_known user_known agree joint joint one.1 two.1)

-- The facts of models, each by its name, and how to show them of new lists.
use Rattle.std.proofs.Common.{◌≡◌, ℕ, zero, suc, true, List, [], ◌∷◌, length, Some, refl, sym, ap, arith}
use Rattle.std.specs.Prelude.{◌==◌, slice_get}
use Rattle.std.specs.Bool.{Decides}
use Rattle.std.specs.Cmp.{first_so, second_so}
use Rattle.std.proofs.lemmas.Bool.{true≢false, and_from}
use Rattle.std.proofs.lemmas.Bool.Decides.{Decides-eqb, Decides-and}
use Rattle.std.specs.Cmp.Lexicographic.{pointwise}
use Rattle.model_kit.specs.declared.vocabulary.Vocabulary.{Vocabulary}
use Rattle.model_kit.specs.declared.vocabulary.Signature.{Signature}
use Rattle.model_kit.specs.declared.atom.GroundAtom.{GroundAtom}
use Rattle.model_kit.specs.declared.model.Model.{Model}
use Rattle.model_kit.specs.declared.model.Schema.{Schema}
use Rattle.model_kit.specs.Names.{are_entries}
use Rattle.model_kit.specs.Same.{same_numbers, same_atom, same_schema_atom}
use Rattle.model_kit.specs.Vocabulary.{is_ground_atom, is_schema_atom}
use Rattle.model_kit.specs.Features.{are_ground_atoms, are_schema_atoms, is_cost, is_schema, is_value, same_key, is_action, is_model}
use Rattle.model_kit.proofs.Ands.{and4, and5, all5}
use Rattle.model_kit.proofs.Alike.{same_numbers-decides, same_atom-decides, same_schema_atom-decides}
use Rattle.model_kit.proofs.Distinct.{ListFacts, list_facts, list_sound}
use Rattle.mre_base.proofs.Tests.{all_four}

-- what a schema keeps, where its action has these parameters
pub record SchemaFacts (words : Vocabulary) (params : List ℕ) (schema : Schema) : Type 0 where
  pub pre_kept : ListFacts (is_schema_atom words params) (λ f g. f ≡ g) schema.pre
  pub add_kept : ListFacts (is_schema_atom words params) (λ f g. f ≡ g) schema.add
  pub del_kept : ListFacts (is_schema_atom words params) (λ f g. f ≡ g) schema.del
  pub cost_fits : is_cost words params schema.cost ≡ true

module _ (words : Vocabulary) where
  pub schema_facts : (schema : Schema) (action : Signature) → is_schema words schema action ≡ true → SchemaFacts words action.params schema
  schema_facts schema action e =
      let parts = and4 (are_schema_atoms words action.params schema.pre) (are_schema_atoms words action.params schema.add) (are_schema_atoms words action.params schema.del) (is_cost words action.params schema.cost) e in record {
        pre_kept = list_facts (is_schema_atom words action.params) same_schema_atom (λ f g. f ≡ g) same_schema_atom-decides schema.pre parts.0;
        add_kept = list_facts (is_schema_atom words action.params) same_schema_atom (λ f g. f ≡ g) same_schema_atom-decides schema.add parts.1;
        del_kept = list_facts (is_schema_atom words action.params) same_schema_atom (λ f g. f ≡ g) same_schema_atom-decides schema.del parts.2;
        cost_fits = parts.3;
      }

  pub schema_sound : (schema : Schema) (action : Signature) → SchemaFacts words action.params schema → is_schema words schema action ≡ true
  schema_sound schema action facts =
      all_four (are_schema_atoms words action.params schema.pre) (are_schema_atoms words action.params schema.add) (are_schema_atoms words action.params schema.del) (is_cost words action.params schema.cost)
      (list_sound (is_schema_atom words action.params) same_schema_atom (λ f g. f ≡ g) same_schema_atom-decides schema.pre facts.pre_kept)
      (list_sound (is_schema_atom words action.params) same_schema_atom (λ f g. f ≡ g) same_schema_atom-decides schema.add facts.add_kept)
      (list_sound (is_schema_atom words action.params) same_schema_atom (λ f g. f ≡ g) same_schema_atom-decides schema.del facts.del_kept)
      facts.cost_fits

  schemas_count : (schemas : List Schema) (actions : List Signature) → pointwise (is_schema words) schemas actions ≡ true → length schemas ≡ length actions
  schemas_count [] [] e = refl
  schemas_count [] (action ∷ actions) e = absurd (true≢false (sym e))
  schemas_count (schema ∷ schemas) [] e = absurd (true≢false (sym e))
  schemas_count (schema ∷ schemas) (action ∷ actions) e = ap suc (schemas_count schemas actions (second_so (is_schema words schema action) (pointwise (is_schema words) schemas actions) e))

  schema_at : (schemas : List Schema) (actions : List Signature) → pointwise (is_schema words) schemas actions ≡ true
      → (n : ℕ) (schema : Schema) (action : Signature) → slice_get schemas n ≡ Some schema → slice_get actions n ≡ Some action → is_schema words schema action ≡ true
  schema_at [] actions e n schema action at_n action_n = absurd (cc)
  schema_at (x ∷ schemas) [] e n schema action at_n action_n = absurd (cc)
  schema_at (x ∷ schemas) (y ∷ actions) e zero schema action at_n action_n =
      let here = first_so (is_schema words x y) (pointwise (is_schema words) schemas actions) e in
      let x_is : x ≡ schema = cc in
      let y_is : y ≡ action = cc in
      rw (← x_is, ← y_is) here
  schema_at (x ∷ schemas) (y ∷ actions) e (suc n) schema action at_n action_n =
      schema_at schemas actions (second_so (is_schema words x y) (pointwise (is_schema words) schemas actions) e) n schema action at_n action_n

  schemas_from : (schemas : List Schema) (actions : List Signature) → length schemas ≡ length actions
      → ((n : ℕ) (schema : Schema) (action : Signature) → slice_get schemas n ≡ Some schema → slice_get actions n ≡ Some action → is_schema words schema action ≡ true)
      → pointwise (is_schema words) schemas actions ≡ true
  schemas_from [] [] same each = refl
  schemas_from [] (action ∷ actions) same each = absurd (omega arith)
  schemas_from (schema ∷ schemas) [] same each = absurd (omega arith)
  schemas_from (schema ∷ schemas) (action ∷ actions) same each =
      and_from (is_schema words schema action) (pointwise (is_schema words) schemas actions) (each zero schema action refl refl)
      (schemas_from schemas actions (omega arith) (λ n s a s_is a_is. each (suc n) s a s_is a_is))

-- what every model keeps
pub record ModelFacts (words : Vocabulary) (init goal : List GroundAtom) (schemas : List Schema) (values : List (ℕ × List ℕ × ℕ)) (unknown : List ℕ) : Type 0 where
  pub init_kept : ListFacts (is_ground_atom words) (λ a b. a ≡ b) init
  pub goal_kept : ListFacts (is_ground_atom words) (λ a b. a ≡ b) goal
  pub one_each : length schemas ≡ length words.actions
  pub schemas_kept : (n : ℕ) (schema : Schema) (action : Signature) → slice_get schemas n ≡ Some schema → slice_get words.actions n ≡ Some action → SchemaFacts words action.params schema
  pub values_kept : ListFacts (is_value words) (λ v w. (v.0 ≡ w.0) × (v.1 ≡ w.1)) values
  pub unknown_kept : ListFacts (is_action words) (λ a b. a ≡ b) unknown

same_key-decides : (v w : ℕ × List ℕ × ℕ) → Decides (same_key v w) ((v.0 ≡ w.0) × (v.1 ≡ w.1))
same_key-decides v w = Decides-and (v.0 == w.0) (same_numbers v.1 w.1) (Decides-eqb v.0 w.0) (same_numbers-decides v.1 w.1)

module _ (words : Vocabulary) (init goal : List GroundAtom) (schemas : List Schema) (values : List (ℕ × List ℕ × ℕ)) (unknown : List ℕ) where
  pub model_facts : is_model words init goal schemas values unknown ≡ true → ModelFacts words init goal schemas values unknown
  model_facts e =
      let parts = and5 (are_ground_atoms words init) (are_ground_atoms words goal) (pointwise (is_schema words) schemas words.actions) (are_entries (is_value words) same_key values) (are_entries (is_action words) ◌==◌ unknown) e in record {
        init_kept = list_facts (is_ground_atom words) same_atom (λ a b. a ≡ b) same_atom-decides init parts.0;
        goal_kept = list_facts (is_ground_atom words) same_atom (λ a b. a ≡ b) same_atom-decides goal parts.1;
        one_each = schemas_count words schemas words.actions parts.2;
        schemas_kept = λ n schema action s_is a_is. schema_facts words schema action (schema_at words schemas words.actions parts.2 n schema action s_is a_is);
        values_kept = list_facts (is_value words) same_key (λ v w. (v.0 ≡ w.0) × (v.1 ≡ w.1)) same_key-decides values parts.3;
        unknown_kept = list_facts (is_action words) ◌==◌ (λ a b. a ≡ b) Decides-eqb unknown parts.4;
      }

  -- what must be shown of new lists to make a model of them
  pub model_sound : ModelFacts words init goal schemas values unknown → is_model words init goal schemas values unknown ≡ true
  model_sound facts =
      all5 (are_ground_atoms words init) (are_ground_atoms words goal) (pointwise (is_schema words) schemas words.actions) (are_entries (is_value words) same_key values) (are_entries (is_action words) ◌==◌ unknown)
      (list_sound (is_ground_atom words) same_atom (λ a b. a ≡ b) same_atom-decides init facts.init_kept)
      (list_sound (is_ground_atom words) same_atom (λ a b. a ≡ b) same_atom-decides goal facts.goal_kept)
      (schemas_from words schemas words.actions facts.one_each (λ n schema action s_is a_is. schema_sound words schema action (facts.schemas_kept n schema action s_is a_is)))
      (list_sound (is_value words) same_key (λ v w. (v.0 ≡ w.0) × (v.1 ≡ w.1)) same_key-decides values facts.values_kept)
      (list_sound (is_action words) ◌==◌ (λ a b. a ≡ b) Decides-eqb unknown facts.unknown_kept)

-- the facts of a model
pub facts_of_model : (model : Model) → ModelFacts model.words model.init model.goal model.schemas model.values model.unknown
facts_of_model model = model_facts model.words model.init model.goal model.schemas model.values model.unknown model.sound

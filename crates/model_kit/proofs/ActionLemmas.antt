-- A ground action in a model: its schema is there, its terms have objects, its atoms fit, and what it costs.
use Rattle.std.proofs.Common.{◌≡◌, ℕ, ◌<◌, suc, Bool, true, false, List, [], ◌∷◌, length, get_or, map, Option, Some, None, refl, sym, ap, subst, ◌∙◌, arith}
use Rattle.std.specs.Prelude.{◌==◌, not, nat_lt, IsTrue, All, slice_get, IfSome, IfNone}
use Rattle.std.specs.List.{list_any}
use Rattle.std.specs.Option.{option_map_or}
use Rattle.std.specs.Cmp.{second_so}
use Rattle.std.proofs.lemmas.Bool.{true≢false, and_from, lt-ltb, not_from_true, not_from_false, and_right, cond-true, cond-false}
use Rattle.std.proofs.lemmas.List.Elements.{All-map}
use Rattle.std.specs.Cmp.Lexicographic.{pointwise}
use Rattle.model_kit.specs.declared.vocabulary.Vocabulary.{Vocabulary}
use Rattle.model_kit.specs.declared.vocabulary.Signature.{Signature}
use Rattle.model_kit.specs.declared.atom.GroundAtom.{GroundAtom}
use Rattle.model_kit.specs.declared.atom.SchemaAtom.{SchemaAtom}
use Rattle.model_kit.specs.declared.atom.Term.{Term}
use Rattle.model_kit.specs.declared.atom.Term.TheVariants.{Param}
use Rattle.model_kit.specs.declared.action.GroundAction.{GroundAction}
use Rattle.model_kit.specs.declared.model.Model.{Model}
use Rattle.model_kit.specs.declared.model.Schema.{Schema}
use Rattle.model_kit.specs.declared.model.CostExpr.{CostExpr}
use Rattle.model_kit.specs.declared.model.CostExpr.TheVariants.{Number, Call}
use Rattle.model_kit.specs.Types.{is_of_type}
use Rattle.model_kit.specs.Vocabulary.{is_object_of, is_term_of, fits_signature, is_ground_atom, is_schema_atom, IsGroundAction}
use Rattle.model_kit.specs.Features.{is_cost}
use Rattle.model_kit.specs.Places.{Knows, Cost, Price, Nothing, meaning, value_of}
use Rattle.model_kit.specs.Runs.{is_on, object_of, instance, price_of, cost_of}
use Rattle.model_kit.specs.Judging.{ArePlaced}
use Rattle.model_kit.proofs.ModelFacts.{SchemaFacts, facts_of_model}
use Rattle.model_kit.proofs.Fits.{entry_listed, signature_listed, each_arg_fits}
use Rattle.model_kit.proofs.TypeLemmas.{entry_passes, instance_fits}

pub fit_count : {X : Type 0} (is_of : X → ℕ → Bool) (xs : List X) (types : List ℕ) → pointwise is_of xs types ≡ true → length xs ≡ length types
fit_count is_of [] [] fit = refl
fit_count is_of [] (t ∷ types) fit = absurd (true≢false (sym fit))
fit_count is_of (x ∷ xs) [] fit = absurd (true≢false (sym fit))
fit_count is_of (x ∷ xs) (t ∷ types) fit = ap suc (fit_count is_of xs types (second_so (is_of x t) (pointwise is_of xs types) fit))

module _ (model : Model) (action : GroundAction) (fits : IsGroundAction model.words action) where
  abbrev words : Vocabulary
  words = model.words

  pub schema_listed : action.schema < length model.schemas
  schema_listed =
      let facts = facts_of_model model in
      omega (arith, facts.one_each, signature_listed (is_object_of words) words.actions action.schema action.objects fits)

  -- the signature of the action, whose parameters the objects fit
  pub signature_of : (s : Signature) × (slice_get words.actions action.schema ≡ Some s) × (pointwise (is_object_of words) action.objects s.params ≡ true)
  signature_of = entry_passes (λ s. pointwise (is_object_of words) action.objects s.params) words.actions action.schema fits

  -- each term that fits in the schema has its object
  pub terms_placed : (signatures : List Signature) (n : ℕ) (args : List Term) → fits_signature (is_term_of words signature_of.0.params) signatures n args ≡ true → ArePlaced action.objects args
  terms_placed signatures n args fit k d lt i is =
      let at = each_arg_fits (is_term_of words signature_of.0.params) signatures n args fit k d lt in
      let term_fit : is_term_of words signature_of.0.params (Param i) at.0 ≡ true = subst (λ t. is_term_of words signature_of.0.params t at.0 ≡ true) is at.1 in
      let listed = entry_listed (λ declared. is_of_type words.types declared at.0) signature_of.0.params i term_fit in
      omega (arith, listed, fit_count (is_object_of words) action.objects signature_of.0.params signature_of.2)

  -- an atom that fits in the schema has its objects, and fits the vocabulary with them
  pub atom_placed : (f : SchemaAtom) → IsTrue (is_schema_atom words signature_of.0.params f) → ArePlaced action.objects f.args
  atom_placed f fit = terms_placed words.predicates f.predicate f.args fit

  pub instance_ground : (f : SchemaAtom) → IsTrue (is_schema_atom words signature_of.0.params f) → IsTrue (is_ground_atom words (instance action.objects f))
  instance_ground f fit = instance_fits words signature_of.0.params action.objects signature_of.2 words.predicates f.predicate f.args fit

  module _ (schema : Schema) (at : slice_get model.schemas action.schema ≡ Some schema) where
    pub schema_kept : SchemaFacts words signature_of.0.params schema
    schema_kept = let facts = facts_of_model model in facts.schemas_kept action.schema schema signature_of.0 at signature_of.1

    cost_placed_by : (cost : CostExpr) → is_cost words signature_of.0.params cost ≡ true → (function : ℕ) (args : List Term) → cost ≡ Call function args → ArePlaced action.objects args
    cost_placed_by (Number n) fit function args is = absurd (cc)
    cost_placed_by (Call g ts) fit function args is =
        let same : ts ≡ args = cc in
        subst (ArePlaced action.objects) same (terms_placed words.functions g ts fit)

    pub cost_placed : (function : ℕ) (args : List Term) → schema.cost ≡ Call function args → ArePlaced action.objects args
    cost_placed function args is = cost_placed_by schema.cost schema_kept.cost_fits function args is

    known : list_any (λ u. u == action.schema) model.unknown ≡ false → is_on (meaning model (Knows action.schema)) ≡ true
    known unlisted =
        and_from (nat_lt action.schema (length model.schemas)) (not (list_any (λ u. u == action.schema) model.unknown))
        (lt-ltb action.schema (length model.schemas) schema_listed) (not_from_false (list_any (λ u. u == action.schema) model.unknown) unlisted)

    -- the cost of a known action is that of its schema
    known_cost : list_any (λ u. u == action.schema) model.unknown ≡ false → cost_of (meaning model) action ≡ price_of (meaning model) action.objects (Price schema.cost)
    known_cost unlisted =
        cond-true (is_on (meaning model (Knows action.schema))) (price_of (meaning model) action.objects (meaning model (Cost action.schema))) None (known unlisted)
        ∙ ap (λ o. price_of (meaning model) action.objects (option_map_or (λ s. Price s.cost) o Nothing)) at

    pub number_cost : list_any (λ u. u == action.schema) model.unknown ≡ false → (n : ℕ) → schema.cost ≡ Number n → cost_of (meaning model) action ≡ Some n
    number_cost unlisted n is = known_cost unlisted ∙ ap (λ e. price_of (meaning model) action.objects (Price e)) is

    pub call_cost : list_any (λ u. u == action.schema) model.unknown ≡ false → (function : ℕ) (args : List Term) → schema.cost ≡ Call function args
        → cost_of (meaning model) action ≡ value_of model.values function (map (object_of action.objects) args)
    call_cost unlisted function args is = known_cost unlisted ∙ ap (λ e. price_of (meaning model) action.objects (Price e)) is

  -- an unknown action has no cost
  pub unknown_cost : list_any (λ u. u == action.schema) model.unknown ≡ true → cost_of (meaning model) action ≡ None
  unknown_cost listed =
      cond-false (is_on (meaning model (Knows action.schema))) (price_of (meaning model) action.objects (meaning model (Cost action.schema))) None
      (and_right (nat_lt action.schema (length model.schemas)) (not (list_any (λ u. u == action.schema) model.unknown)) (not_from_true (list_any (λ u. u == action.schema) model.unknown) listed))

-- what the test of the unknown actions says
pub unknown_test : (now unknown : List ℕ) (schema : ℕ) (answer b : Bool) → now ≡ unknown → answer ≡ list_any (λ u. u == schema) now → answer ≡ b → list_any (λ u. u == schema) unknown ≡ b
unknown_test now unknown schema answer b same is told = ap (list_any (λ u. u == schema)) (sym same) ∙ sym is ∙ told

module _ (model : Model) (action : GroundAction) (fits : IsGroundAction model.words action) where
  -- each atom of a list of the schema has its objects
  pub list_placed : (fs : List SchemaAtom) → All (λ f. IsTrue (is_schema_atom model.words (signature_of model action fits).0.params f)) fs → All (λ f. ArePlaced action.objects f.args) fs
  list_placed fs fit k d lt = atom_placed model action fits (get_or fs k d) (fit k d lt)

  -- with the objects put in they are ground atoms
  pub list_ground : (fs : List SchemaAtom) → All (λ f. IsTrue (is_schema_atom model.words (signature_of model action fits).0.params f)) fs
      → (atoms : List GroundAtom) → atoms ≡ map (instance action.objects) fs → All (λ atom. IsTrue (is_ground_atom model.words atom)) atoms
  list_ground fs fit atoms is =
      subst (All (λ atom. IsTrue (is_ground_atom model.words atom))) (sym is)
      (All-map (λ atom. IsTrue (is_ground_atom model.words atom)) (instance action.objects) fs (λ k d lt. instance_ground model action fits (get_or fs k d) (fit k d lt)))

-- the clauses on what is there
pub some_holds : {X : Type 0} (P : X → Type 0) (o : Option X) (x : X) → o ≡ Some x → IfSome o P → P x
some_holds P o x is holds = subst (λ p. IfSome p P) is holds

pub none_holds : {X : Type 0} (P : Type 0) (o : Option X) → o ≡ None → IfNone o P → P
none_holds P o is holds = subst (λ p. IfNone p P) is holds

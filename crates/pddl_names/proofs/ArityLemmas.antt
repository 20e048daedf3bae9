-- A table of arities is filled from the last entry to the first, so that the first entry of a name stays.
use Rattle.std.proofs.Common.{◌≡◌, ℕ, ◌+◌, ◌-◌, ◌<◌, ◌≤◌, Bool, true, false, cond, Some, None, Option, List, [], ◌∷◌, ◌++◌, length, drop, map, refl, sym, ap, ◌∙◌, arith}
use Rattle.std.specs.Prelude.{slice_get, slice_index}
use Rattle.std.specs.Option.{option_map, option_or}
use Rattle.std.specs.Str.{bytes_eq}
use Rattle.std.proofs.lemmas.Bool.{true≢false}
use Rattle.std.proofs.lemmas.List.{drop_all, length-map}
use Rattle.mre_base.specs.declared.text.Text.{Text}
use Rattle.model_kit.specs.declared.vocabulary.Signature.{Signature}
use Rattle.mre_base.proofs.Loops.{drop_item}
use Rattle.pddl_names.specs.declared.arities.Arities.{Arities}
use Rattle.pddl_names.specs.declared.kind.Kind.{Kind}
use Rattle.pddl_names.specs.declared.kind.Kind.TheVariants as kind
use Rattle.pddl_names.specs.declared.role.Word.{Word}
use Rattle.pddl_names.specs.Arities.{is_signed, signed_in, signed_before, arity_of, count_in, PutsCount, AreArities}
use Rattle.pddl_names.specs.Groups.{AreParamCounts}
use Rattle.pddl_names.specs.Kinds.{is_kind}
use Rattle.pddl_names.specs.Listings.{Typed, Signed, first_of, own_params, types_of, predicates_in, functions_in}
use Rattle.pddl_names.specs.Texts.{type_name}
use Rattle.pddl_names.proofs.PlaceLemmas.{predicate_step, function_step}

pub signed_none : (k : Kind) → signed_in k [] ≡ []
signed_none kind.Predicates = refl
signed_none kind.Functions = refl
signed_none _ = refl

pub signed_step : (k : Kind) → is_signed k ≡ true → (w : Word) (rest : List Word)
    → signed_in k (w ∷ rest) ≡ cond (is_kind k w.role) ((w.text, types_of (own_params rest)) ∷ signed_in k rest) (signed_in k rest)
signed_step kind.Predicates is w rest = predicate_step w.role (w.text, types_of (own_params rest)) (predicates_in rest)
signed_step kind.Functions is w rest = function_step w.role (w.text, types_of (own_params rest)) (functions_in rest)
signed_step _ is w rest = absurd (true≢false (sym is))

size_by : (b : Bool) (types : List Text) (o : Option (List Text)) → option_map length (cond b (Some types) o) ≡ cond b (Some (length types)) (option_map length o)
size_by true types o = refl
size_by false types o = refl

-- ---- the words

module _ (k : Kind) (words : List Word) where
  -- the table has the arities from this place on
  abbrev pub AreAritiesFrom : ℕ → Arities → Type 0
  AreAritiesFrom place table = AreArities (signed_in k (drop place words)) table

  pub arities_none : (place : ℕ) (table : Arities) → length words ≤ place → ((name : Text) → count_in table name ≡ None) → AreAritiesFrom place table
  arities_none place table all none name =
      none name ∙ sym (ap (λ es. arity_of es name) (signed_none k)) ∙ ap (λ ws. arity_of (signed_in k ws) name) (sym (drop_all place words all))

  module _ (signed : is_signed k ≡ true) (place : ℕ) (w : Word) (positive : 0 < place) (at : slice_get words (place - 1) ≡ Some w) where
    step : (b : Bool) → is_kind k w.role ≡ b → (name : Text)
        → arity_of (signed_in k (drop (place - 1) words)) name
        ≡ arity_of (cond b ((w.text, types_of (own_params (drop place words))) ∷ signed_in k (drop place words)) (signed_in k (drop place words))) name
    step b is name =
        let back : place - 1 + 1 ≡ place = omega arith in
        ap (λ ws. arity_of (signed_in k ws) name) (drop_item words (place - 1) w at)
        ∙ ap (λ n. arity_of (signed_in k (w ∷ drop n words)) name) back
        ∙ ap (λ es. arity_of es name) (signed_step k signed w (drop place words))
        ∙ ap (λ c. arity_of (cond c ((w.text, types_of (own_params (drop place words))) ∷ signed_in k (drop place words)) (signed_in k (drop place words))) name) is

    count_is : (counts : List ℕ) → AreParamCounts words counts → place ≤ length words → slice_index counts (place - 1) ≡ length (types_of (own_params (drop place words)))
    count_is counts known within =
        let back : place - 1 + 1 ≡ place = omega arith in
        known.each (place - 1) (omega arith) (omega arith) ∙ ap (λ n. length (own_params (drop n words))) back
        ∙ sym (length-map (own_params (drop place words)) (λ (p : Typed). p.1))

    pub arities_put : (old new : Arities) (counts : List ℕ) → AreAritiesFrom place old → is_kind k w.role ≡ true → AreParamCounts words counts → place ≤ length words
        → PutsCount old new w.text (slice_index counts (place - 1)) → AreAritiesFrom (place - 1) new
    arities_put old new counts before is known within puts name =
        puts name
        ∙ (λ i. cond (bytes_eq w.text name) (Some (count_is counts known within i)) (before name i))
        ∙ sym (size_by (bytes_eq w.text name) (types_of (own_params (drop place words))) (first_of (signed_in k (drop place words)) name))
        ∙ sym (step true is name)

    pub arities_passed : (table : Arities) → AreAritiesFrom place table → is_kind k w.role ≡ false → AreAritiesFrom (place - 1) table
    arities_passed table before is name = before name ∙ sym (step false is name)

-- ---- what was declared before

or_by : (b : Bool) (size : ℕ) (types : List Text) (rest : Option (List Text)) (old : Option ℕ) → length types ≡ size
    → option_or (option_map length (cond b (Some types) rest)) old ≡ cond b (Some size) (option_or (option_map length rest) old)
or_by true size types rest old is = ap (λ (n : ℕ). Some n) is
or_by false size types rest old is = refl

module _ (base : List Signature) (self : Arities) where
  -- the entries from this place on come before those of the table
  abbrev pub HasBaseFrom : ℕ → Arities → Type 0
  HasBaseFrom place table =
      (types : List (Text × ℕ)) (name : Text) → count_in table name ≡ option_or (arity_of (signed_before types (drop place base)) name) (count_in self name)

  pub base_none : (place : ℕ) → length base ≤ place → HasBaseFrom place self
  base_none place all types name = ap (λ es. option_or (arity_of (signed_before types es) name) (count_in self name)) (sym (drop_all place base all))

  pub base_put : (place : ℕ) (s : Signature) (old new : Arities) (size : ℕ) → 0 < place → slice_get base (place - 1) ≡ Some s → HasBaseFrom place old
      → size ≡ length s.params → PutsCount old new s.name size → HasBaseFrom (place - 1) new
  base_put place s old new size positive at before is puts types name =
      let back : place - 1 + 1 ≡ place = omega arith in
      puts name
      ∙ ap (λ (o : Option ℕ). cond (bytes_eq s.name name) (Some size) o) (before types name)
      ∙ sym (or_by (bytes_eq s.name name) size (map (type_name types) s.params) (first_of (signed_before types (drop place base)) name) (count_in self name) (length-map s.params (type_name types) ∙ sym is))
      ∙ sym (ap (λ es. option_or (arity_of (signed_before types es) name) (count_in self name)) (drop_item base (place - 1) s at ∙ ap (λ n. s ∷ drop n base) back))

-- ---- both

or_cond : (b : Bool) (types : List Text) (o p : Option (List Text)) → option_or (cond b (Some types) o) p ≡ cond b (Some types) (option_or o p)
or_cond true types o p = refl
or_cond false types o p = refl

pub first-append : (front behind : List Signed) (name : Text) → first_of (front ++ behind) name ≡ option_or (first_of front name) (first_of behind name)
first-append [] behind name = refl
first-append (e ∷ front) behind name =
    ap (λ o. cond (bytes_eq e.0 name) (Some e.1) o) (first-append front behind name) ∙ sym (or_cond (bytes_eq e.0 name) e.1 (first_of front name) (first_of behind name))

map_or : (o p : Option (List Text)) → option_map length (option_or o p) ≡ option_or (option_map length o) (option_map length p)
map_or None p = refl
map_or (Some x) p = refl

pub arity-append : (front behind : List Signed) (name : Text) → arity_of (front ++ behind) name ≡ option_or (arity_of front name) (arity_of behind name)
arity-append front behind name = ap (λ o. option_map length o) (first-append front behind name) ∙ map_or (first_of front name) (first_of behind name)

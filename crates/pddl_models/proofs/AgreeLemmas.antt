-- What is declared by names and what a vocabulary has by numbers agree: a type below another by names is below it by numbers,
-- and terms that are of the types that are due have numbers that fit.
use Rattle.std.proofs.Common.{◌≡◌, ℕ, ◌+◌, ◌<◌, ◌&&◌, suc, zero, Bool, true, false, cond, Some, None, Option, List, [], ◌∷◌, length, map, refl, sym, ap, ◌∙◌, arith, ⊎_elim}
use Rattle.std.specs.Prelude.{slice_get, codes}
use Rattle.std.specs.List.{list_any, range_with_len}
use Rattle.std.specs.Option.{option_map, option_map_or}
use Rattle.std.specs.Str.{bytes_eq}
use Rattle.std.specs.Cmp.{second_so}
use Rattle.std.specs.Cmp.Lexicographic.{pointwise}
use Rattle.std.proofs.lemmas.Bool.{true≢false, or_cases, and_parts, and_from}
use Rattle.std.proofs.lemmas.Option.{slice_get-map}
use Rattle.mre_base.specs.declared.text.Text.{Text}
use Rattle.model_kit.specs.declared.atom.Term.TheVariants.{Param, Object}
use Rattle.model_kit.specs.declared.vocabulary.Signature.{Signature}
use Rattle.model_kit.specs.declared.vocabulary.Vocabulary.{Vocabulary}
use Rattle.model_kit.specs.Types as numbered
use Rattle.model_kit.specs.Types.{is_of_type}
use Rattle.model_kit.specs.Vocabulary.{is_object_of, is_term_of, fits_signature}
use Rattle.model_kit.proofs.TypeLemmas.{some_below, from_steps_up, is_of_type-trans, entry_from}
use Rattle.model_kit.proofs.WordFacts.{facts_of_words}
use Rattle.pddl_names.specs.Listings.{Typed, Declared, first_of, parent_of, ancestor, is_type, is_below, types_of}
use Rattle.pddl_names.specs.Naming.{is_variable, term_type}
use Rattle.pddl_vocabulary.specs.Values.{place_in, names_of, words_named}
use Rattle.pddl_models.specs.Says.{term_said}
use Rattle.pddl_models.proofs.PlaceInLemmas.{name_same, first_at}

-- the number of a type
abbrev pub type_place : Vocabulary → Text → ℕ
type_place words type = place_in (names_of words.types) type

-- the signature of a name, with the numbers of its parameters' types
pub record IsSigned (words : Vocabulary) (signatures : List Signature) (name : Text) (types : List Text) : Type 0 where
  pub signature : Signature
  pub at : slice_get signatures (place_in (words_named signatures) name) ≡ Some signature
  pub named : signature.name ≡ name
  pub params : signature.params ≡ map (type_place words) types

-- the vocabulary has the numbers of what is declared
pub record Agrees (known : Declared) (words : Vocabulary) : Type 0 where
  pub types : (t : Text) → numbered.parent words.types (type_place words t) ≡ type_place words (parent_of known.types t)
  pub type_listed : (t : Text) → type_place words t < length words.types
  pub objects : (name type : Text) → first_of known.objects name ≡ Some type → slice_get words.objects (place_in (names_of words.objects) name) ≡ Some (name, type_place words type)
  pub predicates : (name : Text) (types : List Text) → first_of known.predicates name ≡ Some types → IsSigned words words.predicates name types
  pub functions : (name : Text) (types : List Text) → bytes_eq name (codes "total-cost") ≡ false → first_of known.functions name ≡ Some types → IsSigned words words.functions name types

-- the term has a type that is the due one or below it
abbrev pub is_due : Declared → List Typed → Text → Text → Bool
is_due known own text due = option_map_or (λ (type : Text). is_below known.types type due) (term_type known own text) false

module _ (known : Declared) (words : Vocabulary) (agrees : Agrees known words) where
  -- each type is below those up its chain
  chain : (type n : ℕ) → type < length words.types → is_of_type words.types type (numbered.ancestor words.types n type) ≡ true
  chain type zero listed = from_steps_up words.types type type 0 (omega arith) refl
  chain type (suc n) listed =
      let middle = numbered.ancestor words.types n type in
      is_of_type-trans words.types (facts_of_words words).types_kept type middle (numbered.parent words.types middle) listed (chain type n listed)
      (from_steps_up words.types middle (numbered.parent words.types middle) 1 (omega arith) refl)

  ancestors : (n : ℕ) (t : Text) → numbered.ancestor words.types n (type_place words t) ≡ type_place words (ancestor known.types n t)
  ancestors zero t = refl
  ancestors (suc n) t = ap (numbered.parent words.types) (ancestors n t) ∙ agrees.types (ancestor known.types n t)

  pub below_numbers : (t above : Text) → is_below known.types t above ≡ true → is_of_type words.types (type_place words t) (type_place words above) ≡ true
  below_numbers t above is =
      ⊎_elim
      (λ same. ap (λ (u : Text). is_of_type words.types (type_place words t) (type_place words u)) (sym (name_same t above same)) ∙ chain (type_place words t) 0 (agrees.type_listed t))
      (λ both.
      let at = some_below (λ n. bytes_eq (ancestor known.types n t) above) (length known.types + 3)
      (second_so (is_type known.types t) (list_any (λ n. bytes_eq (ancestor known.types n t) above) (range_with_len 0 (length known.types + 3))) both) in
      ap (λ (u : Text). is_of_type words.types (type_place words t) (type_place words u)) (sym (name_same (ancestor known.types at.0 t) above at.2))
      ∙ ap (is_of_type words.types (type_place words t)) (sym (ancestors at.0 t))
      ∙ chain (type_place words t) at.0 (agrees.type_listed t))
      (or_cases (bytes_eq t above) (is_type known.types t && list_any (λ n. bytes_eq (ancestor known.types n t) above) (range_with_len 0 (length known.types + 3))) is)

  -- ---- objects

  pub due_by : (due : Text) (o : Option Text) → option_map_or (λ (type : Text). is_below known.types type due) o false ≡ true → (type : Text) × (o ≡ Some type) × (is_below known.types type due ≡ true)
  due_by due None is = absurd (true≢false (sym is))
  due_by due (Some type) is = (type, refl, is)

  object_fits : (text type due : Text) → first_of known.objects text ≡ Some type → is_below known.types type due ≡ true
      → is_object_of words (place_in (names_of words.objects) text) (type_place words due) ≡ true
  object_fits text type due at below =
      entry_from (λ entry. is_of_type words.types entry.1 (type_place words due)) words.objects (place_in (names_of words.objects) text) (text, type_place words type)
      (agrees.objects text type at) (below_numbers type due below)

  -- ---- terms of an action with these parameters

  module _ (own : List Typed) where
    abbrev param_places : List ℕ
    param_places = map (type_place words) (types_of own)

    abbrev own_names : List Text
    own_names = map (λ (p : Typed). p.0) own

    param_fits : (text type due : Text) → first_of own text ≡ Some type → is_below known.types type due ≡ true → is_term_of words param_places (Param (place_in own_names text)) (type_place words due) ≡ true
    param_fits text type due at below =
        entry_from (λ declared. is_of_type words.types declared (type_place words due)) param_places (place_in own_names text) (type_place words type)
        (slice_get-map (type_place words) (types_of own) (place_in own_names text)
        ∙ ap (option_map (type_place words)) (slice_get-map (λ (p : Typed). p.1) own (place_in own_names text) ∙ ap (option_map (λ (p : Typed). p.1)) (first_at own text type at)))
        (below_numbers type due below)

    term_by : (text due : Text) (b : Bool) → option_map_or (λ (type : Text). is_below known.types type due) (cond b (first_of own text) (first_of known.objects text)) false ≡ true
        → is_term_of words param_places (cond b (Param (place_in own_names text)) (Object (place_in (names_of words.objects) text))) (type_place words due) ≡ true
    term_by text due true is = let type = due_by due (first_of own text) is in param_fits text type.0 due type.1 type.2
    term_by text due false is = let type = due_by due (first_of known.objects text) is in object_fits text type.0 due type.1 type.2

    pub terms_fit : (texts dues : List Text) → pointwise (is_due known own) texts dues ≡ true
        → pointwise (is_term_of words param_places) (map (term_said (names_of words.objects) own_names) texts) (map (type_place words) dues) ≡ true
    terms_fit [] [] fit = refl
    terms_fit [] (due ∷ dues) fit = absurd (true≢false (sym fit))
    terms_fit (text ∷ texts) [] fit = absurd (true≢false (sym fit))
    terms_fit (text ∷ texts) (due ∷ dues) fit =
        let parts = and_parts (is_due known own text due) (pointwise (is_due known own) texts dues) fit in
        and_from (is_term_of words param_places (term_said (names_of words.objects) own_names text) (type_place words due))
        (pointwise (is_term_of words param_places) (map (term_said (names_of words.objects) own_names) texts) (map (type_place words) dues))
        (term_by text due (is_variable text) parts.0) (terms_fit texts dues parts.1)

    -- a declared head with terms that are due fits the signature of its number
    pub head_fits : (signatures : List Signature) (name : Text) (dues texts : List Text) → IsSigned words signatures name dues → pointwise (is_due known own) texts dues ≡ true
        → fits_signature (is_term_of words param_places) signatures (place_in (words_named signatures) name) (map (term_said (names_of words.objects) own_names) texts) ≡ true
    head_fits signatures name dues texts signed fit =
        entry_from (λ s. pointwise (is_term_of words param_places) (map (term_said (names_of words.objects) own_names) texts) s.params) signatures (place_in (words_named signatures) name) signed.signature signed.at
        (ap (pointwise (is_term_of words param_places) (map (term_said (names_of words.objects) own_names) texts)) signed.params ∙ terms_fit texts dues fit)

  -- ---- objects of a problem, which has no parameters

  object_by : (text due : Text) (b : Bool) → option_map_or (λ (type : Text). is_below known.types type due) (cond b None (first_of known.objects text)) false ≡ true
      → is_object_of words (place_in (names_of words.objects) text) (type_place words due) ≡ true
  object_by text due true is = absurd (true≢false (sym is))
  object_by text due false is = let type = due_by due (first_of known.objects text) is in object_fits text type.0 due type.1 type.2

  pub objects_fit : (texts dues : List Text) → pointwise (is_due known []) texts dues ≡ true
      → pointwise (is_object_of words) (map (place_in (names_of words.objects)) texts) (map (type_place words) dues) ≡ true
  objects_fit [] [] fit = refl
  objects_fit [] (due ∷ dues) fit = absurd (true≢false (sym fit))
  objects_fit (text ∷ texts) [] fit = absurd (true≢false (sym fit))
  objects_fit (text ∷ texts) (due ∷ dues) fit =
      let parts = and_parts (is_due known [] text due) (pointwise (is_due known []) texts dues) fit in
      and_from (is_object_of words (place_in (names_of words.objects) text) (type_place words due))
      (pointwise (is_object_of words) (map (place_in (names_of words.objects)) texts) (map (type_place words) dues))
      (object_by text due (is_variable text) parts.0) (objects_fit texts dues parts.1)

  pub ground_fits : (signatures : List Signature) (name : Text) (dues texts : List Text) → IsSigned words signatures name dues → pointwise (is_due known []) texts dues ≡ true
      → fits_signature (is_object_of words) signatures (place_in (words_named signatures) name) (map (place_in (names_of words.objects)) texts) ≡ true
  ground_fits signatures name dues texts signed fit =
      entry_from (λ s. pointwise (is_object_of words) (map (place_in (names_of words.objects)) texts) s.params) signatures (place_in (words_named signatures) name) signed.signature signed.at
      (ap (pointwise (is_object_of words) (map (place_in (names_of words.objects)) texts)) signed.params ∙ objects_fit texts dues fit)

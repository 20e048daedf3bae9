-- The vocabulary that the words of a domain say agrees with what they declare.
use Rattle.std.proofs.Common.{◌≡◌, ℕ, ◌<◌, ◌||◌, Bool, true, false, Some, List, [], ◌∷◌, length, map, refl, sym, ap, ◌∙◌, arith}
use Rattle.std.specs.Prelude.{not, filter, slice_get, unwrap_or, codes}
use Rattle.std.specs.Option.{option_map, option_map_or}
use Rattle.std.specs.Str.{bytes_eq}
use Rattle.std.proofs.lemmas.Bool.{true≢false, or_right}
use Rattle.std.proofs.lemmas.List.{length-map}
use Rattle.std.proofs.lemmas.Option.{slice_get-map, slice_get_within}
use Rattle.mre_base.specs.declared.text.Text.{Text}
use Rattle.model_kit.specs.declared.vocabulary.Signature.{Signature}
use Rattle.model_kit.specs.declared.vocabulary.Vocabulary.{Vocabulary}
use Rattle.model_kit.specs.Types as numbered
use Rattle.model_kit.proofs.WordFacts.{facts_of_words}
use Rattle.pddl_names.specs.declared.role.Role.{Role}
use Rattle.pddl_names.specs.declared.role.Role.TheVariants as role
use Rattle.pddl_names.specs.declared.role.Word.{Word}
use Rattle.pddl_names.specs.Listings.{Typed, Signed, nothing, declared, first_of, parent_of, types_listed, objects_listed, predicates_in, functions_in, with_type, type_behind}
use Rattle.pddl_names.specs.Numbers.{entry_name}
use Rattle.pddl_vocabulary.specs.Values.{firsts, place_in, names_of, words_named, type_names, type_words, with_type_name, types_said, objects_said, same_entry, signature_said, is_total, SaysWords}
use Rattle.pddl_models.proofs.AgreeLemmas.{type_place, IsSigned, Agrees}
use Rattle.pddl_models.proofs.PlaceInLemmas.{is_among, name_self, name_same, at_place, place_here, place_none, name_at, first_at, first_none, first_kept, first_first}
use Rattle.pddl_models.proofs.RepeatLemmas.{firsts_among}

-- a place is below the number of names, where there is one
place_by : (names : List Text) (t : Text) → 0 < length names → (b : Bool) → is_among names t ≡ b → place_in names t < length names
place_by names t some true among = slice_get_within names (place_in names t) t (at_place names t among)
place_by names t some false none = let here = place_none names t none in omega (arith, here)

pub type_below : (words : Vocabulary) (t : Text) → type_place words t < length words.types
type_below words t =
    let some : 0 < length words.types = slice_get_within words.types 0 (codes "object", 0) (facts_of_words words).types_kept.first in
    let count : length (names_of words.types) ≡ length words.types = length-map words.types entry_name in
    let lt = place_by (names_of words.types) t (omega (arith, some, count)) (is_among (names_of words.types) t) refl in
    omega (arith, lt, count)

-- the top type is its own parent
pub top_parent : (words : Vocabulary) → numbered.parent words.types 0 ≡ 0
top_parent words = ap (λ o. option_map_or (λ entry. entry.1) o 0) (facts_of_words words).types_kept.first

-- ---- lists that are made entry by entry

entry_names : (f : Text → ℕ) (names : List Text) → map entry_name (map (λ (n : Text). let e : Text × ℕ = (n, f n) in e) names) ≡ names
entry_names f [] = refl
entry_names f (n ∷ names) = ap (λ ns. n ∷ ns) (entry_names f names)

typed_names : (f : Text → ℕ) (entries : List Typed) → map entry_name (map (λ (e : Typed). let made : Text × ℕ = (e.0, f e.1) in made) entries) ≡ map name_at entries
typed_names f [] = refl
typed_names f (e ∷ entries) = ap (λ ns. e.0 ∷ ns) (typed_names f entries)

signed_names : (types : List Text) (entries : List Signed) → words_named (map (signature_said types) entries) ≡ map name_at entries
signed_names types [] = refl
signed_names types (e ∷ entries) = ap (λ ns. e.0 ∷ ns) (signed_names types entries)

-- ---- a listed type is among the names of types

listed_by : (r : Role) (text type t : Text) (listed : List Typed) (names : List Text) → (is_among (map name_at listed) t ≡ true → is_among names t ≡ true)
    → is_among (map name_at (with_type r (text, type) listed)) t ≡ true → is_among (with_type_name r text names) t ≡ true
listed_by role.ListedType text type t listed names rest e = or_by (bytes_eq text t) (is_among (map name_at listed) t) (is_among names t) rest e
  where
    or_by : (a b c : Bool) → (b ≡ true → c ≡ true) → (a || b) ≡ true → (a || c) ≡ true
    or_by true b c more e = refl
    or_by false b c more e = more e
listed_by role.ParentType text type t listed names rest e = or_right (bytes_eq text t) (is_among names t) (rest e)
listed_by _ text type t listed names rest e = rest e

listed_among : (words : List Word) (t : Text) → is_among (map name_at (types_listed words)) t ≡ true → is_among (type_words words) t ≡ true
listed_among [] t e = e
listed_among (w ∷ rest) t e = listed_by w.role w.text (type_behind rest) t (types_listed rest) (type_words rest) (listed_among rest t) e

module _ (said : List Word) where
  abbrev names : List Text
  names = type_names said

  listed_named : (t : Text) → is_among (map name_at (types_listed said)) t ≡ true → is_among names t ≡ true
  listed_named t e = firsts_among (codes "object" ∷ type_words said) t (or_right (bytes_eq (codes "object") t) (is_among (type_words said) t) (listed_among said t e))

  unlisted_by : (t : Text) → is_among names t ≡ false → (b : Bool) → is_among (map name_at (types_listed said)) t ≡ b → parent_of (types_listed said) t ≡ codes "object"
  unlisted_by t none true among = absurd (true≢false (sym (listed_named t among) ∙ none))
  unlisted_by t none false out = ap (λ o. unwrap_or o (codes "object")) (first_none (types_listed said) t out)

  object_place : place_in names (codes "object") ≡ 0
  object_place = place_here (codes "object") (filter (λ y. not (bytes_eq (codes "object") y)) (firsts bytes_eq (type_words said))) (codes "object") (name_self (codes "object"))

  module _ (words : Vocabulary) (says : SaysWords said words) where
    pub names_are : names_of words.types ≡ names
    names_are = ap names_of says.types ∙ entry_names (λ name. place_in names (parent_of (types_listed said) name)) names

    parent_by : (t : Text) (b : Bool) → is_among names t ≡ b → numbered.parent (types_said said) (place_in names t) ≡ place_in names (parent_of (types_listed said) t)
    parent_by t true among =
        ap (λ o. option_map_or (λ entry. entry.1) o 0)
        (slice_get-map (λ name. let e : Text × ℕ = (name, place_in names (parent_of (types_listed said) name)) in e) names (place_in names t)
        ∙ ap (option_map (λ name. let e : Text × ℕ = (name, place_in names (parent_of (types_listed said) name)) in e)) (at_place names t among))
    parent_by t false none =
        ap (numbered.parent (types_said said)) (place_none names t none)
        ∙ ap (λ types. numbered.parent types 0) (sym says.types) ∙ top_parent words
        ∙ sym (ap (place_in names) (unlisted_by t none (is_among (map name_at (types_listed said)) t) refl) ∙ object_place)

    parents : (t : Text) → numbered.parent words.types (type_place words t) ≡ type_place words (parent_of (types_listed said) t)
    parents t =
        (λ i. numbered.parent (says.types i) (place_in (names_are i) t))
        ∙ parent_by t (is_among names t) refl
        ∙ sym (ap (λ ns. place_in ns (parent_of (types_listed said) t)) names_are)

    abbrev numbered_object : Typed → Text × ℕ
    numbered_object e = (e.0, place_in names e.1)

    objects_at : (name type : Text) → first_of (objects_listed said) name ≡ Some type → slice_get words.objects (place_in (names_of words.objects) name) ≡ Some (name, type_place words type)
    objects_at name type at =
        (λ i. slice_get (says.objects i) (place_in (names_of (says.objects i)) name))
        ∙ ap (λ ns. slice_get (objects_said names said) (place_in ns name)) (typed_names (place_in names) (firsts same_entry (objects_listed said)))
        ∙ slice_get-map numbered_object (firsts same_entry (objects_listed said)) (place_in (map name_at (firsts same_entry (objects_listed said))) name)
        ∙ ap (option_map numbered_object) (first_at (firsts same_entry (objects_listed said)) name type (first_first (objects_listed said) name ∙ at))
        ∙ (λ i. let entry : Text × ℕ = (name, place_in (sym names_are i) type) in Some entry)

    signed_at : (signatures : List Signature) (listed : List Signed) → signatures ≡ map (signature_said names) listed → (name : Text) (types : List Text) → first_of listed name ≡ Some types
        → IsSigned words signatures name types
    signed_at signatures listed are name types at = record {
      signature = signature_said names (name, types);
      at = (λ i. slice_get (are i) (place_in (words_named (are i)) name))
          ∙ ap (λ ns. slice_get (map (signature_said names) listed) (place_in ns name)) (signed_names names listed)
          ∙ slice_get-map (signature_said names) listed (place_in (map name_at listed) name)
          ∙ ap (option_map (signature_said names)) (first_at listed name types at);
      named = refl;
      params = ap (λ ns. map (place_in ns) types) (sym names_are);
    }

    no_total : (name : Text) → bytes_eq name (codes "total-cost") ≡ false → (e : Signed) → bytes_eq e.0 name ≡ true → not (is_total e) ≡ true
    no_total name other e is = ap not (ap (λ (t : Text). bytes_eq t (codes "total-cost")) (name_same e.0 name is) ∙ other)

    -- the vocabulary of a domain agrees with what its words declare
    pub domain_agrees : Agrees (declared nothing said) words
    domain_agrees = record {
      types = parents;
      type_listed = type_below words;
      objects = objects_at;
      predicates = λ name types at. signed_at words.predicates (predicates_in said) says.predicates name types at;
      functions = λ name types other at.
          signed_at words.functions (filter (λ s. not (is_total s)) (functions_in said)) says.functions name types
          (first_kept (λ s. not (is_total s)) name (no_total name other) (functions_in said) ∙ at);
    }

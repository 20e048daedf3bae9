-- The objects that words list are those of a vocabulary, by themselves and after the objects of a domain.
use Rattle.std.proofs.Common.{◌≡◌, ℕ, ◌+◌, ◌<◌, ◌≤◌, Bool, true, false, cond, Some, List, [], ◌∷◌, ◌++◌, length, map, refl, sym, ap, subst, ◌∙◌, append_assoc, arith}
use Rattle.std.specs.Prelude.{not, nat_lt, filter, slice_get, codes, unwrap_or}
use Rattle.std.specs.List.{list_any, list_all, position_from}
use Rattle.std.specs.Str.{bytes_eq}
use Rattle.std.proofs.lemmas.Bool.{true≢false, and_parts, and_from, not_from_false, or_left, or_right}
use Rattle.std.proofs.lemmas.Bool.Decides.{Decides-ltb}
use Rattle.std.proofs.lemmas.List.{length-map}
use Rattle.std.proofs.lemmas.List.Elements.{All-head, All-tail}
use Rattle.std.proofs.lemmas.List.Folds.{list_any-append}
use Rattle.std.proofs.lemmas.Map.Views.{any-filter_same}
use Rattle.std.proofs.lemmas.Option.{slice_get_within}
use Rattle.mre_base.specs.declared.text.Text.{Text}
use Rattle.model_kit.specs.declared.vocabulary.Vocabulary.{Vocabulary}
use Rattle.model_kit.specs.Names.{is_name, are_distinct}
use Rattle.model_kit.specs.Words.{is_typed, same_name, are_types, are_typed, are_signatures, is_no_total, is_vocabulary}
use Rattle.model_kit.proofs.Alike.{same_numbers-decides}
use Rattle.model_kit.proofs.Ands.{and6, all6}
use Rattle.model_kit.proofs.WordFacts.{facts_of_words}
use Rattle.pddl_names.specs.declared.kind.Kind.TheVariants as kind
use Rattle.pddl_names.specs.declared.role.Role.{Role}
use Rattle.pddl_names.specs.declared.role.Role.TheVariants as role
use Rattle.pddl_names.specs.declared.role.Word.{Word}
use Rattle.pddl_vocabulary.specs.declared.vocabulary_types.TypeNumbers.{TypeNumbers}
use Rattle.pddl_vocabulary.specs.Formed.{IsFormed, AreFormed, is_naming}
use Rattle.pddl_names.specs.Groups.{AreTypePlaces}
use Rattle.pddl_names.specs.Kinds.{is_kind}
use Rattle.pddl_names.specs.Listings.{Typed, with_object, objects_listed, type_behind}
use Rattle.pddl_names.specs.Numbers.{IsTableOf, entry_name}
use Rattle.pddl_vocabulary.specs.Values.{firsts, place_in, names_of, same_entry, objects_said}
use Rattle.pddl_vocabulary.specs.VocabularyFirsts.{same_by, is_no_entry}
use Rattle.pddl_vocabulary.specs.VocabularyTypes.{type_number, AreTypesOf}
use Rattle.pddl_vocabulary.specs.VocabularyLists.{object_said, objects_numbered}
use Rattle.pddl_vocabulary.proofs.EntryLemmas.{all_filter, all_firsts, all_append, distinct_filter, distinct_firsts, distinct_append, firsts_map, position_map, place_within}
use Rattle.pddl_vocabulary.proofs.GatherLemmas.{objects_step}

-- ---- how many they are

few_by : (r : Role) (e : Typed) (more : List Typed) → length (with_object r e more) ≤ length more + 1
few_by role.ListedObject e more = omega arith
few_by _ e more = omega arith

pub objects_listed_few : (words : List Word) → length (objects_listed words) ≤ length words
objects_listed_few [] = omega arith
objects_listed_few (w ∷ rest) =
    let here = few_by w.role (w.text, type_behind rest) (objects_listed rest) in
    let more = objects_listed_few rest in
    omega (arith, here, more)

pub objects_few : (number : Text → ℕ) (words : List Word) → length (objects_numbered number words) ≤ length words
objects_few number words = let same = length-map (objects_listed words) (object_said number) in let few = objects_listed_few words in omega (arith, same, few)

-- ---- by the numbers of types

module _ (number : Text → ℕ) (names : List Text) (numbers : (name : Text) → number name ≡ place_in names name) where
  pub objects_are : (words : List Word) → firsts (same_by entry_name) (objects_numbered number words) ≡ objects_said names words
  objects_are words =
      firsts_map (same_by entry_name) (object_said number) (objects_listed words)
      ∙ (λ i. map (λ (e : Typed). let entry : Text × ℕ = (e.0, numbers e.1 i) in entry) (firsts same_entry (objects_listed words)))

-- ---- they are objects

object_is : (r : Role) → is_kind kind.Objects r ≡ true → is_naming r ≡ true
object_is role.ListedObject is = refl
object_is _ is = absurd (true≢false (sym is))

module _ (number : Text → ℕ) (entries : List (Text × ℕ)) (small : (name : Text) → number name < length entries) where
  pass_by : (w : Word) (rest : List Word) (b : Bool) → is_kind kind.Objects w.role ≡ b → IsFormed w → list_all (is_typed entries) (objects_numbered number rest) ≡ true
      → list_all (is_typed entries) (cond b ((w.text, number (type_behind rest)) ∷ objects_numbered number rest) (objects_numbered number rest)) ≡ true
  pass_by w rest true is formed more =
      and_from (is_typed entries (w.text, number (type_behind rest))) (list_all (is_typed entries) (objects_numbered number rest))
      (and_from (is_name w.text) (nat_lt (number (type_behind rest)) (length entries)) (formed.name (object_is w.role is))
      ((Decides-ltb (number (type_behind rest)) (length entries)).1 (small (type_behind rest)))) more
  pass_by w rest false is formed more = more

  pub objects_pass : (words : List Word) → AreFormed words → list_all (is_typed entries) (objects_numbered number words) ≡ true
  objects_pass [] formed = refl
  objects_pass (w ∷ rest) formed =
      ap (list_all (is_typed entries)) (objects_step number w rest (is_kind kind.Objects w.role) refl)
      ∙ pass_by w rest (is_kind kind.Objects w.role) refl (All-head IsFormed w rest formed) (objects_pass rest (All-tail IsFormed w rest formed))

  pub objects_sound : (words : List Word) → AreFormed words → are_typed entries (firsts (same_by entry_name) (objects_numbered number words)) ≡ true
  objects_sound words formed =
      let listed = firsts (same_by entry_name) (objects_numbered number words) in
      and_from (list_all (is_typed entries) listed) (are_distinct same_name listed)
      (all_firsts (is_typed entries) (same_by entry_name) (objects_numbered number words) (objects_pass words formed))
      (distinct_firsts same_name (objects_numbered number words))

-- ---- after the objects of a domain

-- no further entry has the name of one that is there
apart_one : (front rest more : List (Text × ℕ)) (x : Text × ℕ) → list_any (same_name x) (filter (is_no_entry (front ++ x ∷ rest)) more) ≡ false
apart_one front rest more x = any-filter_same (same_name x) (is_no_entry (front ++ x ∷ rest)) false (λ y same. ap not (there y same)) more
  where
    there : (y : Text × ℕ) → same_name x y ≡ true → list_any (λ f. bytes_eq (entry_name f) (entry_name y)) (front ++ x ∷ rest) ≡ true
    there y same =
        list_any-append (λ f. bytes_eq (entry_name f) (entry_name y)) front (x ∷ rest)
        ∙ or_right (list_any (λ f. bytes_eq (entry_name f) (entry_name y)) front) (list_any (λ f. bytes_eq (entry_name f) (entry_name y)) (x ∷ rest))
        (or_left (bytes_eq (entry_name x) (entry_name y)) (list_any (λ f. bytes_eq (entry_name f) (entry_name y)) rest) same)

apart_all : (front xs more : List (Text × ℕ)) → list_all (λ x. not (list_any (same_name x) (filter (is_no_entry (front ++ xs)) more))) xs ≡ true
apart_all front [] more = refl
apart_all front (x ∷ xs) more =
    and_from (not (list_any (same_name x) (filter (is_no_entry (front ++ x ∷ xs)) more))) (list_all (λ z. not (list_any (same_name z) (filter (is_no_entry (front ++ x ∷ xs)) more))) xs)
    (not_from_false (list_any (same_name x) (filter (is_no_entry (front ++ x ∷ xs)) more)) (apart_one front xs more x))
    (subst (λ l. list_all (λ z. not (list_any (same_name z) (filter (is_no_entry l) more))) xs ≡ true) (append_assoc front (x ∷ []) xs) (apart_all (front ++ x ∷ []) xs more))

first_number : (entries : List (Text × ℕ)) → slice_get entries 0 ≡ Some (codes "object", 0) → unwrap_or (position_from (λ e. bytes_eq (entry_name e) (codes "object")) 0 entries) 0 ≡ 0
first_number [] is = absurd (cc)
first_number (e ∷ entries) is =
    let entry : e ≡ (codes "object", 0) = cc in
    ap (λ b. unwrap_or (cond b (Some 0) (position_from (λ f. bytes_eq (entry_name f) (codes "object")) 1 entries)) 0)
    ((same_numbers-decides (entry_name e) (codes "object")).1 (ap entry_name entry))

-- with a table of the numbers of the domain's types
module _ (domain : Vocabulary) (types : TypeNumbers) (table : IsTableOf entry_name domain.types types.numbers) where
  pub numbers_are : (name : Text) → type_number types name ≡ place_in (names_of domain.types) name
  numbers_are name = ap (λ o. unwrap_or o 0) (table name ∙ sym (position_map (λ other. bytes_eq other name) entry_name 0 domain.types))

  pub types_are : (said : List Word) → AreTypePlaces said types.places.items → AreTypesOf said types
  types_are said places = record {
    object = ap (λ o. unwrap_or o 0) (table (codes "object")) ∙ first_number domain.types (facts_of_words domain).types_kept.first;
    places = places;
  }

module _ (domain : Vocabulary) (number : Text → ℕ) (numbers : (name : Text) → number name ≡ place_in (names_of domain.types) name) where
  some_types : 0 < length domain.types
  some_types = slice_get_within domain.types 0 (codes "object", 0) (facts_of_words domain).types_kept.first

  small : (name : Text) → number name < length domain.types
  small name =
      let counted = length-map domain.types entry_name in
      let lt = place_within (names_of domain.types) name (omega (arith, counted, some_types)) in
      omega (arith, numbers name, counted, lt)

  pub more_sound : (said : List Word) → AreFormed said
      → is_vocabulary domain.types (domain.objects ++ filter (is_no_entry domain.objects) (firsts (same_by entry_name) (objects_numbered number said))) domain.predicates domain.functions domain.actions ≡ true
  more_sound said formed =
      let listed = firsts (same_by entry_name) (objects_numbered number said) in
      let further = filter (is_no_entry domain.objects) listed in
      let parts = and6 (are_types domain.types) (are_typed domain.types domain.objects) (are_signatures domain.types domain.predicates) (are_signatures domain.types domain.functions) (list_all is_no_total domain.functions) (are_signatures domain.types domain.actions) domain.sound in
      let own = and_parts (list_all (is_typed domain.types) domain.objects) (are_distinct same_name domain.objects) parts.1 in
      let new = and_parts (list_all (is_typed domain.types) listed) (are_distinct same_name listed) (objects_sound number domain.types small said formed) in
      all6 (are_types domain.types) (are_typed domain.types (domain.objects ++ further)) (are_signatures domain.types domain.predicates) (are_signatures domain.types domain.functions) (list_all is_no_total domain.functions) (are_signatures domain.types domain.actions)
      parts.0
      (and_from (list_all (is_typed domain.types) (domain.objects ++ further)) (are_distinct same_name (domain.objects ++ further))
      (all_append (is_typed domain.types) domain.objects further own.0 (all_filter (is_typed domain.types) (is_no_entry domain.objects) listed new.0))
      (distinct_append same_name domain.objects further own.1 (distinct_filter same_name (is_no_entry domain.objects) listed new.1) (apart_all [] domain.objects listed)))
      parts.2 parts.3 parts.4 parts.5

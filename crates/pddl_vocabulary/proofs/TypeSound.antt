-- The types that words say are those of a vocabulary, and so are all lists that they say.
use Rattle.std.proofs.Common.{◌≡◌, ℕ, ◌<◌, Bool, true, false, cond, List, [], ◌∷◌, length, map, refl, sym, ap, ◌∙◌, arith}
use Rattle.std.specs.Prelude.{nat_lt, codes, unwrap_or}
use Rattle.std.specs.List.{list_all, range_with_len}
use Rattle.std.specs.Str.{bytes_eq}
use Rattle.std.proofs.lemmas.Bool.{true≢false, and_from, eq-eqb}
use Rattle.std.proofs.lemmas.Bool.Decides.{Decides-ltb}
use Rattle.std.proofs.lemmas.List.{length-map}
use Rattle.std.proofs.lemmas.List.Elements.{All-head, All-tail}
use Rattle.std.proofs.lemmas.Option.{slice_get_within}
use Rattle.mre_base.specs.declared.text.Text.{Text}
use Rattle.model_kit.specs.Names.{is_name, are_distinct}
use Rattle.model_kit.specs.Types.{is_of_type}
use Rattle.model_kit.specs.Words.{is_typed, same_name, is_first, are_types, are_typed, are_signatures, is_no_total, is_vocabulary}
use Rattle.model_kit.proofs.Ands.{all3, all6}
use Rattle.model_kit.proofs.WordFacts.{below_decides}
use Rattle.pddl_names.specs.declared.kind.Kind.TheVariants as kind
use Rattle.pddl_names.specs.declared.role.Role.{Role}
use Rattle.pddl_names.specs.declared.role.Role.TheVariants as role
use Rattle.pddl_names.specs.declared.role.Word.{Word}
use Rattle.pddl_vocabulary.specs.declared.vocabulary_types.TypeNumbers.{TypeNumbers}
use Rattle.pddl_vocabulary.specs.Formed.{IsFormed, AreFormed, is_naming}
use Rattle.pddl_names.specs.Groups.{AreTypePlaces}
use Rattle.pddl_names.specs.Listings.{nothing, types_listed, parent_of}
use Rattle.pddl_names.specs.Naming.{IsNamed}
use Rattle.pddl_names.specs.Numbers.{IsTableOf, entry_name}
use Rattle.pddl_vocabulary.specs.Values.{firsts, place_in, type_words, type_names, types_said}
use Rattle.pddl_vocabulary.specs.VocabularyFirsts.{same_by}
use Rattle.pddl_names.specs.Numbers.{text_name}
use Rattle.pddl_vocabulary.specs.VocabularyTypes.{is_type_name, type_number, AreTypesOf}
use Rattle.pddl_vocabulary.specs.VocabularyLists.{type_said, objects_numbered, entries_said}
use Rattle.pddl_vocabulary.proofs.ChainLemmas.{top_parent, chains_end}
use Rattle.pddl_vocabulary.proofs.EntryLemmas.{all_map, all_both, all_firsts, distinct_firsts, distinct_map, place_within}
use Rattle.pddl_vocabulary.proofs.GatherLemmas.{type_name_is}
use Rattle.pddl_vocabulary.proofs.ObjectLemmas.{objects_sound}
use Rattle.pddl_vocabulary.proofs.SignatureLemmas.{no_total, signatures_sound}

-- ---- their names

naming_type : (r : Role) → is_type_name r ≡ true → is_naming r ≡ true
naming_type role.ListedType is = refl
naming_type role.ParentType is = refl
naming_type _ is = absurd (true≢false (sym is))

name_by : (w : Word) (more : List Text) (b : Bool) → is_type_name w.role ≡ b → IsFormed w → list_all is_name more ≡ true → list_all is_name (cond b (w.text ∷ more) more) ≡ true
name_by w more true is formed all = and_from (is_name w.text) (list_all is_name more) (formed.name (naming_type w.role is)) all
name_by w more false is formed all = all

type_words_pass : (words : List Word) → AreFormed words → list_all is_name (type_words words) ≡ true
type_words_pass [] formed = refl
type_words_pass (w ∷ rest) formed =
    ap (list_all is_name) (type_name_is w.role w.text (type_words rest) (is_type_name w.role) refl)
    ∙ name_by w (type_words rest) (is_type_name w.role) refl (All-head IsFormed w rest formed) (type_words_pass rest (All-tail IsFormed w rest formed))

module _ (said : List Word) where
  abbrev names : List Text
  names = type_names said

  abbrev entry : Text → Text × ℕ
  entry name = (name, place_in names (parent_of (types_listed said) name))

  some_names : 0 < length names
  some_names = slice_get_within names 0 (codes "object") refl

  pub small_place : (name : Text) → place_in names name < length (types_said said)
  small_place name = let counted = length-map names entry in let lt = place_within names name some_names in omega (arith, counted, lt)

  module _ (formed : AreFormed said) (named : IsNamed nothing said) where
    names_pass : list_all is_name names ≡ true
    names_pass = all_firsts is_name bytes_eq (codes "object" ∷ type_words said) (type_words_pass said formed)

    types_pass : list_all (is_typed (types_said said)) (types_said said) ≡ true
    types_pass =
        all_map (is_typed (types_said said)) entry names
        (all_both is_name (λ name. nat_lt (place_in names (parent_of (types_listed said) name)) (length (types_said said)))
        (λ name. (Decides-ltb (place_in names (parent_of (types_listed said) name)) (length (types_said said))).1 (small_place (parent_of (types_listed said) name))) names names_pass)

    types_distinct : are_distinct same_name (types_said said) ≡ true
    types_distinct = distinct_map same_name entry names (distinct_firsts bytes_eq (codes "object" ∷ type_words said))

    first_type : is_first (types_said said) ≡ true
    first_type = eq-eqb (place_in names (parent_of (types_listed said) (codes "object"))) 0 (ap (place_in names) (top_parent said named))

    pub types_sound : are_types (types_said said) ≡ true
    types_sound =
        all3 (is_first (types_said said)) (are_typed (types_said said) (types_said said)) (list_all (λ type. is_of_type (types_said said) type 0) (range_with_len 0 (length (types_said said))))
        first_type
        (and_from (list_all (is_typed (types_said said)) (types_said said)) (are_distinct same_name (types_said said)) types_pass types_distinct)
        ((below_decides (λ type. is_of_type (types_said said) type 0) (length (types_said said))).1 (chains_end said named))

  -- ---- all lists that the words say

  module _ (number : Text → ℕ) (numbers : (name : Text) → number name ≡ place_in names name) where
    pub types_are : map (type_said number said) names ≡ types_said said
    types_are i = map (λ (name : Text). let made : Text × ℕ = (name, numbers (parent_of (types_listed said) name) i) in made) names

    small : (name : Text) → number name < length (types_said said)
    small name = let lt = small_place name in let same = numbers name in omega (arith, same, lt)

    pub words_sound : AreFormed said → IsNamed nothing said
        → is_vocabulary (types_said said) (firsts (same_by entry_name) (objects_numbered number said)) (entries_said number kind.Predicates said) (entries_said number kind.Functions said) (entries_said number kind.Actions said) ≡ true
    words_sound formed named =
        let entries = types_said said in
        all6 (are_types entries) (are_typed entries (firsts (same_by entry_name) (objects_numbered number said))) (are_signatures entries (entries_said number kind.Predicates said))
        (are_signatures entries (entries_said number kind.Functions said)) (list_all is_no_total (entries_said number kind.Functions said)) (are_signatures entries (entries_said number kind.Actions said))
        (types_sound formed named)
        (objects_sound number entries small said formed)
        (signatures_sound nothing kind.Predicates refl said named number entries small formed)
        (signatures_sound nothing kind.Functions refl said named number entries small formed)
        (no_total number said formed)
        (signatures_sound nothing kind.Actions refl said named number entries small formed)

-- ---- by a table of the numbers of the types

pub types_of_are : (said : List Word) (types : TypeNumbers) → ((name : Text) → type_number types name ≡ place_in (type_names said) name) → AreTypePlaces said types.places.items → AreTypesOf said types
types_of_are said types numbers places = record { object = numbers (codes "object"); places = places }

-- a table of the names of the types
pub table_numbers : (said : List Word) (types : TypeNumbers) (listed : List Text) → listed ≡ type_names said → IsTableOf text_name listed types.numbers
    → (name : Text) → type_number types name ≡ place_in (type_names said) name
table_numbers said types listed are table name = ap (λ o. unwrap_or o 0) (table name) ∙ ap (λ l. place_in l name) are

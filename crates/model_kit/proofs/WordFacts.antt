-- The facts of vocabularies, each by its name, and how to show them of new lists.
use Rattle.std.proofs.Common.{◌≡◌, ℕ, ◌<◌, Bool, true, List, [], ◌∷◌, length, Option, Some, sym, ap, subst, ◌∙◌, zero-add}
use Rattle.std.specs.Prelude.{◌==◌, nat_lt, ◌≢◌, AllPairs, All, IsTrue, codes, slice_get}
use Rattle.std.specs.Bool.{Decides}
use Rattle.std.specs.List.{list_all, range_with_len}
use Rattle.std.specs.Option.{option_map_or}
use Rattle.std.proofs.lemmas.Bool.{true≢false, and_parts, and_from}
use Rattle.std.proofs.lemmas.Bool.Decides.{Decides-ltb, Decides-eqb, Decides-not}
use Rattle.std.proofs.lemmas.List.FromFn.{get_or-range_with_len, length-range_with_len}
use Rattle.std.proofs.lemmas.List.Elements.{All-weaker}
use Rattle.model_kit.specs.declared.vocabulary.Vocabulary.{Vocabulary}
use Rattle.model_kit.specs.declared.vocabulary.Signature.{Signature}
use Rattle.model_kit.specs.Names.{is_name}
use Rattle.model_kit.specs.Same.{same_numbers}
use Rattle.model_kit.specs.Types.{is_of_type}
use Rattle.model_kit.specs.Words.{is_typed, same_name, are_typed, is_first, are_types, is_signature, same_word, are_signatures, is_no_total, is_vocabulary}
use Rattle.model_kit.proofs.Ands.{and3, and6, all3, all6}
use Rattle.model_kit.proofs.Alike.{same_numbers-decides}
use Rattle.model_kit.proofs.Distinct.{all_decides, ListFacts, list_facts, list_sound}

-- ---- names

-- each entry has a name, and no two have the same
pub record AreNamed {X : Type 0} (name : X → List ℕ) (xs : List X) : Type 0 where
  pub good : All (λ x. IsTrue (is_name (name x))) xs
  pub apart : AllPairs (λ x y. name x ≢ name y) xs

-- what is listed with names
pub named_list : {X : Type 0} (passes : X → Bool) (name : X → List ℕ) (xs : List X) → ((x : X) → passes x ≡ true → is_name (name x) ≡ true) → ListFacts passes (λ x y. name x ≡ name y) xs → AreNamed name xs
named_list passes name xs names facts = record {
  good = All-weaker (λ x. IsTrue (passes x)) (λ x. IsTrue (is_name (name x))) names xs facts.fit;
  apart = facts.apart;
}

-- ---- types

first_decides : (types : List (List ℕ × ℕ)) → Decides (is_first types) (slice_get types 0 ≡ Some (codes "object", 0))
first_decides [] = (λ e. absurd (true≢false (sym e)), λ e. absurd (cc))
first_decides (entry ∷ types) =
    let name = same_numbers-decides entry.0 (codes "object") in
    let own = Decides-eqb entry.1 0 in (
      λ e. let both = and_parts (same_numbers entry.0 (codes "object")) (entry.1 == 0) e in λ i. Some (name.0 both.0 i, own.0 both.1 i),
      λ e. and_from (same_numbers entry.0 (codes "object")) (entry.1 == 0) (name.1 (ap first_name e)) (own.1 (ap first_parent e)),
    )
  where
    first_name : Option (List ℕ × ℕ) → List ℕ
    first_name o = option_map_or (λ entry. entry.0) o []

    first_parent : Option (List ℕ × ℕ) → ℕ
    first_parent o = option_map_or (λ entry. entry.1) o 0

-- a test of each number below n
pub below_decides : (p : ℕ → Bool) (n : ℕ) → Decides (list_all p (range_with_len 0 n)) ((k : ℕ) → k < n → p k ≡ true)
below_decides p n =
    let each = all_decides p (λ k. p k ≡ true) (λ k. (λ h. h, λ h. h)) (range_with_len 0 n) in (
      λ e k lt. subst (λ m. p m ≡ true) (get_or-range_with_len 0 n k 0 lt ∙ zero-add k) (each.0 e k 0 (rw (length-range_with_len 0 n) lt)),
      λ below. each.1 (λ k d lt. let lt_n : k < n = rw (length-range_with_len 0 n) at lt in
          subst (λ m. p m ≡ true) (sym (get_or-range_with_len 0 n k d lt_n ∙ zero-add k)) (below k lt_n)),
    )

-- what types or objects keep: names that differ, and types
abbrev pub TypedFacts : List (List ℕ × ℕ) → List (List ℕ × ℕ) → Type 0
TypedFacts types entries = ListFacts (is_typed types) (λ e f. e.0 ≡ f.0) entries

same_name-decides : (e f : List ℕ × ℕ) → Decides (same_name e f) (e.0 ≡ f.0)
same_name-decides e f = same_numbers-decides e.0 f.0

-- the first type is `object` and its own parent, each parent is a type, and each chain of parents ends at `object`
pub record TypeFacts (types : List (List ℕ × ℕ)) : Type 0 where
  pub first : slice_get types 0 ≡ Some (codes "object", 0)
  pub kept : TypedFacts types types
  pub chains : (type : ℕ) → type < length types → is_of_type types type 0 ≡ true

pub type_facts : (types : List (List ℕ × ℕ)) → are_types types ≡ true → TypeFacts types
type_facts types e =
    let parts = and3 (is_first types) (are_typed types types) (list_all (λ type. is_of_type types type 0) (range_with_len 0 (length types))) e in record {
      first = (first_decides types).0 parts.0;
      kept = list_facts (is_typed types) same_name (λ e f. e.0 ≡ f.0) same_name-decides types parts.1;
      chains = (below_decides (λ type. is_of_type types type 0) (length types)).0 parts.2;
    }

pub types_sound : (types : List (List ℕ × ℕ)) → TypeFacts types → are_types types ≡ true
types_sound types facts =
    all3 (is_first types) (are_typed types types) (list_all (λ type. is_of_type types type 0) (range_with_len 0 (length types)))
    ((first_decides types).1 facts.first)
    (list_sound (is_typed types) same_name (λ e f. e.0 ≡ f.0) same_name-decides types facts.kept)
    ((below_decides (λ type. is_of_type types type 0) (length types)).1 facts.chains)

-- the type of a listed entry is listed
pub type_listed : (types entries : List (List ℕ × ℕ)) → TypedFacts types entries → All (λ entry. entry.1 < length types) entries
type_listed types entries facts =
    All-weaker (λ e. IsTrue (is_typed types e)) (λ e. e.1 < length types) (λ e passes. (Decides-ltb e.1 (length types)).0 (and_parts (is_name e.0) (nat_lt e.1 (length types)) passes).1) entries facts.fit

pub typed_named : (types entries : List (List ℕ × ℕ)) → TypedFacts types entries → AreNamed (λ e. e.0) entries
typed_named types entries = named_list (is_typed types) (λ e. e.0) entries (λ e passes. (and_parts (is_name e.0) (nat_lt e.1 (length types)) passes).0)

-- ---- signatures

abbrev pub SignatureFacts : List (List ℕ × ℕ) → List Signature → Type 0
SignatureFacts types signatures = ListFacts (is_signature types) (λ s t. s.name ≡ t.name) signatures

same_word-decides : (s t : Signature) → Decides (same_word s t) (s.name ≡ t.name)
same_word-decides s t = same_numbers-decides s.name t.name

signature_name : (types : List (List ℕ × ℕ)) (s : Signature) → is_signature types s ≡ true → is_name s.name ≡ true
signature_name types s passes = (and_parts (is_name s.name) (list_all (λ type. nat_lt type (length types)) s.params) passes).0

pub signature_types : (types : List (List ℕ × ℕ)) (s : Signature) → is_signature types s ≡ true → All (λ type. type < length types) s.params
signature_types types s passes =
    (all_decides (λ type. nat_lt type (length types)) (λ type. type < length types) (λ type. Decides-ltb type (length types)) s.params).0
    (and_parts (is_name s.name) (list_all (λ type. nat_lt type (length types)) s.params) passes).1

no_total_decides : (s : Signature) → Decides (is_no_total s) (s.name ≢ codes "total-cost")
no_total_decides s = Decides-not (same_numbers s.name (codes "total-cost")) (same_numbers-decides s.name (codes "total-cost"))

pub signatures_named : (types : List (List ℕ × ℕ)) (signatures : List Signature) → SignatureFacts types signatures → AreNamed (λ s. s.name) signatures
signatures_named types signatures = named_list (is_signature types) (λ s. s.name) signatures (signature_name types)

-- ---- vocabularies

-- what every vocabulary keeps
pub record WordFacts (types objects : List (List ℕ × ℕ)) (predicates functions actions : List Signature) : Type 0 where
  pub types_kept : TypeFacts types
  pub objects_kept : TypedFacts types objects
  pub predicates_kept : SignatureFacts types predicates
  pub functions_kept : SignatureFacts types functions
  pub no_total_cost : All (λ s. s.name ≢ codes "total-cost") functions
  pub actions_kept : SignatureFacts types actions

module _ (types objects : List (List ℕ × ℕ)) (predicates functions actions : List Signature) where
  pub word_facts : is_vocabulary types objects predicates functions actions ≡ true → WordFacts types objects predicates functions actions
  word_facts e =
      let parts = and6 (are_types types) (are_typed types objects) (are_signatures types predicates) (are_signatures types functions) (list_all is_no_total functions) (are_signatures types actions) e in record {
        types_kept = type_facts types parts.0;
        objects_kept = list_facts (is_typed types) same_name (λ e f. e.0 ≡ f.0) same_name-decides objects parts.1;
        predicates_kept = list_facts (is_signature types) same_word (λ s t. s.name ≡ t.name) same_word-decides predicates parts.2;
        functions_kept = list_facts (is_signature types) same_word (λ s t. s.name ≡ t.name) same_word-decides functions parts.3;
        no_total_cost = (all_decides is_no_total (λ s. s.name ≢ codes "total-cost") no_total_decides functions).0 parts.4;
        actions_kept = list_facts (is_signature types) same_word (λ s t. s.name ≡ t.name) same_word-decides actions parts.5;
      }

  -- what must be shown of new lists to make a vocabulary of them
  pub words_sound : WordFacts types objects predicates functions actions → is_vocabulary types objects predicates functions actions ≡ true
  words_sound facts =
      all6 (are_types types) (are_typed types objects) (are_signatures types predicates) (are_signatures types functions) (list_all is_no_total functions) (are_signatures types actions)
      (types_sound types facts.types_kept)
      (list_sound (is_typed types) same_name (λ e f. e.0 ≡ f.0) same_name-decides objects facts.objects_kept)
      (list_sound (is_signature types) same_word (λ s t. s.name ≡ t.name) same_word-decides predicates facts.predicates_kept)
      (list_sound (is_signature types) same_word (λ s t. s.name ≡ t.name) same_word-decides functions facts.functions_kept)
      ((all_decides is_no_total (λ s. s.name ≢ codes "total-cost") no_total_decides functions).1 facts.no_total_cost)
      (list_sound (is_signature types) same_word (λ s t. s.name ≡ t.name) same_word-decides actions facts.actions_kept)

-- the facts of a vocabulary
pub facts_of_words : (words : Vocabulary) → WordFacts words.types words.objects words.predicates words.functions words.actions
facts_of_words words = word_facts words.types words.objects words.predicates words.functions words.actions words.sound

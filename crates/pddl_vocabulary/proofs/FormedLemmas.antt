-- The form of a text gives formed words: each word is what the part that took it asks for.
use Rattle.std.proofs.Common.{◌≡◌, ◌≢◌, ℕ, ◌&&◌, ◌||◌, Bool, true, false, List, [], ◌∷◌, map, refl, sym, ap, subst, ◌∙◌, arith}
use Rattle.std.specs.Prelude.{not, is_some}
use Rattle.std.specs.Char.{to_ascii_lowercase}
use Rattle.std.specs.List.{AllByRecursion, list_all}
use Rattle.std.proofs.lemmas.Bool.{true≢false, and_parts, and_from, or_right}
use Rattle.std.proofs.lemmas.Bool.Decides.{nat_tests}
use Rattle.std.proofs.lemmas.List.Elements.{All-from_recursion}
use Rattle.model_kit.specs.Names.{is_first_byte, is_later_byte, is_name}
use Rattle.pddl_text.specs.Bytes.{is_word_byte, is_name_start, AreWordBytes}
use Rattle.pddl_text.specs.Forests.{Spells, tokens_of_all}
use Rattle.pddl_text.specs.Tokens.{Token, HasTokens, end, white, comment, opening, closing, word as spelled, stray}
use Rattle.pddl_text.specs.declared.place.Place.{Place}
use Rattle.pddl_text.specs.declared.place.Spot.{Spot}
use Rattle.pddl_text.specs.declared.tree.Forest.{Forest}
use Rattle.pddl_form.specs.declared.next.Next.{Next}
use Rattle.pddl_form.specs.declared.next.Next.TheVariants as next
use Rattle.pddl_form.specs.declared.parts.Listing.{Listing}
use Rattle.pddl_form.specs.declared.parts.Listing.TheVariants as listing
use Rattle.pddl_form.specs.declared.parts.Met.{Met}
use Rattle.pddl_form.specs.declared.parts.Part.{Part}
use Rattle.pddl_form.specs.declared.parts.Part.TheVariants as part
use Rattle.pddl_form.specs.declared.sort.Sort.{Sort}
use Rattle.pddl_form.specs.declared.sort.Sort.TheVariants as word
use Rattle.pddl_form.specs.First.{HasForm}
use Rattle.pddl_form.specs.Mets.{words_in, IsTaken}
use Rattle.pddl_form.specs.Mets.{word_of as text_of}
use Rattle.pddl_form.specs.Names.{is_reserved, is_free_sort, is_name_sort}
use Rattle.pddl_form.specs.Rows.{only_if}
use Rattle.pddl_form.specs.Table.{after_word}
use Rattle.pddl_form.specs.Words.{sort, is_name as begins_name}
use Rattle.pddl_form.proofs.MetLemmas.{form_words, form_taken}
use Rattle.pddl_form.proofs.WordLemmas.{name_sort, sort_numeral}
use Rattle.pddl_form.specs.Numbers.{number}
use Rattle.pddl_names.specs.declared.role.Role.{Role}
use Rattle.pddl_names.specs.declared.role.Role.TheVariants as role
use Rattle.pddl_names.specs.declared.role.Word.{Word}
use Rattle.pddl_vocabulary.specs.Formed.{IsFormed, AreFormed, is_naming}
use Rattle.pddl_names.specs.Roles.{listed, typed, role_at, word_of, words_of}

-- ---- bytes

-- a byte of a word in lower case may be in a name
lower_later : (b : ℕ) → is_word_byte b ≡ true → is_later_byte (to_ascii_lowercase b) ≡ true
lower_later b is = grind (arith, nat_tests)

first_letter : (b : ℕ) → is_name_start b ≡ true → is_later_byte b ≡ true → is_first_byte b ≡ true
first_letter b start later = grind (arith, nat_tests)

lower_all : (letters : List ℕ) → AreWordBytes letters → list_all is_later_byte (map to_ascii_lowercase letters) ≡ true
lower_all [] all = refl
lower_all (b ∷ letters) all =
    and_from (is_later_byte (to_ascii_lowercase b)) (list_all is_later_byte (map to_ascii_lowercase letters)) (lower_later b all.0) (lower_all letters all.1)

-- each byte of the word may be in a name
abbrev IsLower : List ℕ × Place → Type 0
IsLower w = list_all is_later_byte w.0 ≡ true

tokens_lower : {s : Spot} {bytes : List ℕ} {tokens : List Token} → HasTokens s bytes tokens → AllByRecursion IsLower (words_in tokens)
tokens_lower end = tt
tokens_lower (white is more) = tokens_lower more
tokens_lower (comment inside rest line ends more) = tokens_lower more
tokens_lower (opening more) = tokens_lower more
tokens_lower (closing more) = tokens_lower more
tokens_lower (spelled b letters rest all ends more) = (lower_all (b ∷ letters) all, tokens_lower more)
tokens_lower (stray is more) = tokens_lower more

name_from : (text : List ℕ) → begins_name text ≡ true → list_all is_later_byte text ≡ true → is_name text ≡ true
name_from [] begins lower = absurd (true≢false (sym begins))
name_from (b ∷ bytes) begins lower =
    let both = and_parts (is_later_byte b) (list_all is_later_byte bytes) lower in
    and_from (is_first_byte b) (list_all is_later_byte bytes) (first_letter b begins both.0) both.1

-- ---- what parts take

taken_if : (b : Bool) (n : Next) → only_if b n ≢ next.Refused → b ≡ true
taken_if true n taken = refl
taken_if false n taken = absurd (taken refl)

free_name : (s : Sort) (n : Next) → only_if (is_free_sort s) n ≢ next.Refused → is_name_sort s ≡ true
free_name s n taken = or_right (is_reserved s) (is_free_sort s) (taken_if (is_free_sort s) n taken)

-- a part whose word is a name takes only names
naming_taken : (p : Part) (s : Sort) → is_naming (role_at p s) ≡ true → after_word p s ≢ next.Refused → is_name_sort s ≡ true
naming_taken (part.Names l) s names taken = taken_if (is_name_sort s) (next.One (part.NamesMore l)) taken
naming_taken (part.NamesMore l) word.Dash names taken = absurd (true≢false (sym names))
naming_taken (part.NamesMore l) s names taken = taken_if (is_name_sort s) (next.One (part.NamesMore l)) taken
naming_taken (part.NameType l) s names taken = taken_if (is_name_sort s) next.Nothing taken
naming_taken part.PredicateName s names taken = free_name s _ taken
naming_taken part.FunctionName s names taken = free_name s _ taken
naming_taken part.ActionName s names taken = free_name s _ taken
naming_taken (part.VariableType o) s names taken = taken_if (is_name_sort s) next.Nothing taken
naming_taken (part.VariablesMore o) word.Dash names taken = absurd (true≢false (sym names))
naming_taken (part.VariablesMore o) s names taken = absurd (true≢false (sym names))
naming_taken part.ConditionHead word.And names taken = absurd (true≢false (sym names))
naming_taken part.ConditionHead s names taken = absurd (true≢false (sym names))
naming_taken part.EffectHead word.And names taken = absurd (true≢false (sym names))
naming_taken part.EffectHead word.Not names taken = absurd (true≢false (sym names))
naming_taken part.EffectHead word.Increase names taken = absurd (true≢false (sym names))
naming_taken part.EffectHead s names taken = absurd (true≢false (sym names))
naming_taken part.FactHead word.Equal names taken = absurd (true≢false (sym names))
naming_taken part.FactHead s names taken = absurd (true≢false (sym names))
naming_taken part.ValuedHead word.TotalCost names taken = absurd (true≢false (sym names))
naming_taken part.ValuedHead s names taken = absurd (true≢false (sym names))
naming_taken part.GoalHead word.And names taken = absurd (true≢false (sym names))
naming_taken part.GoalHead s names taken = absurd (true≢false (sym names))
naming_taken p s names taken = absurd (true≢false (sym names))

no_listing : (l : Listing) → listed l ≡ role.Numeral → ⊥
no_listing listing.Types is = cc
no_listing listing.Constants is = cc
no_listing listing.Objects is = cc

no_parent : (l : Listing) → typed l ≡ role.Numeral → ⊥
no_parent listing.Types is = cc
no_parent listing.Constants is = cc
no_parent listing.Objects is = cc

-- a part whose word is a number takes only numbers
numeral_taken : (p : Part) (s : Sort) → role_at p s ≡ role.Numeral → after_word p s ≢ next.Refused → s ≡ word.Numeral
numeral_taken part.Cost word.Numeral is taken = refl
numeral_taken part.Cost s is taken = absurd (taken refl)
numeral_taken part.Number word.Numeral is taken = refl
numeral_taken part.Number s is taken = absurd (taken refl)
numeral_taken (part.Names l) s is taken = absurd (no_listing l is)
numeral_taken (part.NamesMore l) word.Dash is taken = absurd (cc)
numeral_taken (part.NamesMore l) s is taken = absurd (no_listing l is)
numeral_taken (part.NameType l) s is taken = absurd (no_parent l is)
numeral_taken (part.VariablesMore o) word.Dash is taken = absurd (cc)
numeral_taken (part.VariablesMore o) s is taken = absurd (cc)
numeral_taken part.ConditionHead word.And is taken = absurd (cc)
numeral_taken part.ConditionHead s is taken = absurd (cc)
numeral_taken part.EffectHead word.And is taken = absurd (cc)
numeral_taken part.EffectHead word.Not is taken = absurd (cc)
numeral_taken part.EffectHead word.Increase is taken = absurd (cc)
numeral_taken part.EffectHead s is taken = absurd (cc)
numeral_taken part.FactHead word.Equal is taken = absurd (cc)
numeral_taken part.FactHead s is taken = absurd (cc)
numeral_taken part.ValuedHead word.TotalCost is taken = absurd (cc)
numeral_taken part.ValuedHead s is taken = absurd (cc)
numeral_taken part.GoalHead word.And is taken = absurd (cc)
numeral_taken part.GoalHead s is taken = absurd (cc)
numeral_taken p s is taken = absurd (cc)

-- ---- words

word_formed : (m : Met) → IsTaken m → list_all is_later_byte m.text ≡ true → IsFormed (word_of m)
word_formed m taken lower = record {
  name = λ names. name_from m.text (sym (name_sort m.text) ∙ naming_taken m.part (sort m.text) names taken) lower;
  numeral = λ is. sort_numeral m.text (numeral_taken m.part (sort m.text) is taken);
}

words_formed : (met : List Met) → AllByRecursion IsTaken met → AllByRecursion IsLower (map text_of met) → AllByRecursion IsFormed (words_of met)
words_formed [] taken lower = tt
words_formed (m ∷ met) taken lower = (word_formed m taken.0 lower.0, words_formed met taken.1 lower.1)

-- the words of a text that the bytes spell are formed
pub are_formed : (start : Part) (bytes : List ℕ) (forest : Forest) (met : List Met) → Spells bytes forest → HasForm start (tokens_of_all forest.trees) met → AreFormed (words_of met)
are_formed start bytes forest met spells form =
    All-from_recursion IsFormed (words_of met)
    (words_formed met (form_taken start (tokens_of_all forest.trees) met form)
    (subst (AllByRecursion IsLower) (sym (form_words start (tokens_of_all forest.trees) met form)) (tokens_lower spells.tokens)))

-- Words declare no more things than there are words.
use Rattle.std.proofs.Common.{◌≡◌, ℕ, ◌+◌, ◌≤◌, Bool, true, false, cond, List, [], ◌∷◌, ◌++◌, length, map, ap, ◌∙◌, arith, length-append}
use Rattle.std.specs.Prelude.{not, filter, codes}
use Rattle.std.specs.Str.{bytes_eq}
use Rattle.std.proofs.lemmas.List.{length-map}
use Rattle.mre_base.specs.declared.text.Text.{Text}
use Rattle.mre_base.proofs.Listed.{filter_few}
use Rattle.model_kit.specs.declared.vocabulary.Signature.{Signature}
use Rattle.pddl_names.specs.declared.role.Role.{Role}
use Rattle.pddl_names.specs.declared.role.Role.TheVariants as role
use Rattle.pddl_names.specs.declared.role.Word.{Word}
use Rattle.pddl_names.specs.Listings.{Typed, objects_listed, types_listed, parent_of}
use Rattle.pddl_vocabulary.specs.Values.{firsts, place_in, with_type_name, type_words, type_names, types_said, same_entry, objects_said, ActionWords, with_action, actions_in, action_said}
use Rattle.pddl_vocabulary.specs.VocabularyFirsts.{is_no_entry}
use Rattle.pddl_vocabulary.proofs.ObjectLemmas.{objects_listed_few}

-- ---- lists

pub firsts_few : {X : Type 0} (same : X → X → Bool) (xs : List X) → length (firsts same xs) ≤ length xs
firsts_few same [] = omega arith
firsts_few same (x ∷ xs) =
    let here = filter_few (λ y. not (same x y)) (firsts same xs) in let more = firsts_few same xs in omega (arith, here, more)

-- ---- words

type_few_by : (r : Role) (text : Text) (more : List Text) → length (with_type_name r text more) ≤ length more + 1
type_few_by role.ListedType text more = omega arith
type_few_by role.ParentType text more = omega arith
type_few_by _ text more = omega arith

pub type_words_few : (words : List Word) → length (type_words words) ≤ length words
type_words_few [] = omega arith
type_words_few (w ∷ rest) = let here = type_few_by w.role w.text (type_words rest) in let more = type_words_few rest in omega (arith, here, more)

action_few_by : (r : Role) (a : ActionWords) (more : List ActionWords) → length (with_action r a more) ≤ length more + 1
action_few_by role.Action a more = omega arith
action_few_by _ a more = omega arith

actions_in_few : (words : List Word) → length (actions_in words) ≤ length words
actions_in_few [] = omega arith
actions_in_few (w ∷ rest) = let here = action_few_by w.role (w.text, rest) (actions_in rest) in let more = actions_in_few rest in omega (arith, here, more)

objects_said_few : (names : List Text) (words : List Word) → length (objects_said names words) ≤ length words
objects_said_few names words =
    let same = length-map (firsts same_entry (objects_listed words)) (λ (e : Typed). let entry : Text × ℕ = (e.0, place_in names e.1) in entry) in
    let fewer = firsts_few same_entry (objects_listed words) in
    let few = objects_listed_few words in
    omega (arith, same, fewer, few)

-- ---- vocabularies

module _ (said : List Word) where
  pub few_types : (types : List (Text × ℕ)) → types ≡ types_said said → length types ≤ length said + 1
  few_types types are =
      let same = ap length are ∙ length-map (type_names said) (λ (name : Text). let entry : Text × ℕ = (name, place_in (type_names said) (parent_of (types_listed said) name)) in entry) in
      let fewer = firsts_few bytes_eq (codes "object" ∷ type_words said) in
      let few = type_words_few said in
      omega (arith, same, fewer, few)

  pub few_objects : (objects : List (Text × ℕ)) → objects ≡ objects_said (type_names said) said → length objects ≤ length said
  few_objects objects are = let same = ap length are in let few = objects_said_few (type_names said) said in omega (arith, same, few)

  pub few_actions : (actions : List Signature) → actions ≡ map (action_said (type_names said)) (actions_in said) → length actions ≤ length said
  few_actions actions are =
      let same = ap length are ∙ length-map (actions_in said) (action_said (type_names said)) in
      let few = actions_in_few said in
      omega (arith, same, few)

pub few_more : (base objects : List (Text × ℕ)) (names : List Text) (said : List Word) → objects ≡ base ++ filter (is_no_entry base) (objects_said names said)
    → length objects ≤ length base + length said
few_more base objects names said are =
    let further = objects_said names said in
    let same = ap length are ∙ length-append base (filter (is_no_entry base) further) in
    let fewer = filter_few (is_no_entry base) further in
    let few = objects_said_few names said in
    omega (arith, same, fewer, few)

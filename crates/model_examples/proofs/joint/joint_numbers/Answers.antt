use Rattle.std.proofs.Common.{◌≡◌, ℕ, zero, suc, Bool, true, false, List, [], ◌∷◌, map, refl, sym, ap, subst, ◌∙◌, arith, ⊎_elim}
use Rattle.std.specs.Prelude.{◌||◌, not, Contains, codes, slice_get}
use Rattle.std.specs.Option.{option_or}
use Rattle.model_kit.specs.Printed.{name_of}
use Rattle.std.specs.List.{list_all}
use Rattle.std.specs.Cmp.Lexicographic.{pointwise, pointwise_decides}
use Rattle.std.proofs.lemmas.Bool.{true≢false, or_cases, not-true}
use Rattle.std.proofs.lemmas.List.Elements.{All-contains}
use Rattle.model_kit.specs.declared.vocabulary.Vocabulary.{Vocabulary}
use Rattle.model_kit.specs.declared.vocabulary.Signature.{Signature}
use Rattle.model_kit.specs.Same.{same_numbers}
use Rattle.model_kit.specs.Pairs.{type_name, SameParams, Agree, schema_named}
use Rattle.model_kit.proofs.Alike.{same_numbers-decides}
use Rattle.model_kit.proofs.Distinct.{all_decides}
use Rattle.model_kit.proofs.FirstLemmas.{cons_cases}
use Rattle.model_examples.specs.Build.{word}
use Rattle.model_examples.specs.Joint as joint
use Rattle.model_examples.proofs.Judged.{in_one}
use Rattle.model_examples.proofs.joint.joint_numbers.Goals as goals

-- one list contains what the other does in another order
swapped : {X : Type 0} (x y e : X) → Contains (x ∷ y ∷ []) e → Contains (y ∷ x ∷ []) e
swapped x y e at =
    ⊎_elim (λ same. subst (Contains (y ∷ x ∷ [])) (sym same) (suc zero, omega arith, refl)) (λ rest. subst (Contains (y ∷ x ∷ [])) (sym (in_one y e rest)) (zero, omega arith, refl)) (cons_cases x (y ∷ []) e at)

-- what has one name has the same parameter types
abbrev alike : Vocabulary → Vocabulary → Signature → Signature → Bool
alike one two s t = not (same_numbers s.name t.name) || pointwise same_numbers (map (type_name one) s.params) (map (type_name two) t.params)

each : {X : Type 0} (test : X → Bool) (xs : List X) (x : X) → list_all test xs ≡ true → Contains xs x → test x ≡ true
each test xs x all at = All-contains (λ y. test y ≡ true) xs x ((all_decides test (λ y. test y ≡ true) (λ y. (λ h. h, λ h. h)) xs).0 all) at

params_by : (part : Vocabulary → List Signature) (one two : Vocabulary) → list_all (λ s. list_all (alike one two s) (part two)) (part one) ≡ true → SameParams part one two
params_by part one two all s t in_one_list in_two same =
    let e = each (alike one two s) (part two) t (each (λ r. list_all (alike one two r) (part two)) (part one) s all in_one_list) in_two in
    ⊎_elim (λ apart. absurd (true≢false (sym ((same_numbers-decides s.name t.name).1 same) ∙ not-true (same_numbers s.name t.name) apart)))
    (λ equal. (pointwise_decides same_numbers-decides (map (type_name one) s.params) (map (type_name two) t.params)).0 equal)
    (or_cases (not (same_numbers s.name t.name)) _ e)

agree : Agree joint.planner_words joint.user_words
agree = record {
  types = λ e. (λ at. at, λ at. at);
  objects = λ e. (swapped _ _ e, swapped _ _ e);
  actions = params_by (λ w. w.actions) joint.planner_words joint.user_words refl;
  predicates = params_by (λ w. w.predicates) joint.planner_words joint.user_words refl;
  functions = params_by (λ w. w.functions) joint.planner_words joint.user_words refl;
}

planner_schemas : (n : ℕ) → slice_get joint.joint_planner.schemas n ≡ option_or (schema_named joint.words joint.planner (name_of joint.words.actions n)) (schema_named joint.words joint.user (name_of joint.words.actions n))
planner_schemas zero = refl
planner_schemas (suc zero) = refl
planner_schemas (suc (suc n)) = refl

user_schemas : (n : ℕ) → slice_get joint.joint_user.schemas n ≡ option_or (schema_named joint.words joint.user (name_of joint.words.actions n)) (schema_named joint.words joint.planner (name_of joint.words.actions n))
user_schemas zero = refl
user_schemas (suc zero) = refl
user_schemas (suc (suc n)) = refl

pub returns-clause-paired : goals.returns-clause-paired
returns-clause-paired c = record {
  planner_whole = refl;
  user_whole = refl;
  agree = agree;
  joint = record { types = refl; objects = refl; predicates = refl; functions = refl; actions = refl };
  planner_in = record { words_are = refl; init = refl; goal = refl; schemas = planner_schemas; values = refl; unknown = refl };
  user_in = record { words_are = refl; init = refl; goal = refl; schemas = user_schemas; values = refl; unknown = refl };
}

pub returns-clause-other_params : goals.returns-clause-other_params
returns-clause-other_params c agrees =
    let walk : Signature = word (codes "walk") (0 ∷ []) in
    let bare_walk : Signature = word (codes "walk") [] in
    let same : map (type_name joint.planner_words) walk.params ≡ map (type_name joint.other_words) bare_walk.params = agrees.actions walk bare_walk (zero, omega arith, refl) (zero, omega arith, refl) refl in
    true≢false (sym (ap is_none_left same))
  where
    is_none_left : List (List ℕ) → Bool
    is_none_left [] = true
    is_none_left (x ∷ xs) = false

pub returns-clause-object_missing : goals.returns-clause-object_missing
returns-clause-object_missing c agrees =
    let there = (agrees.objects (codes "b", codes "object")).0 (suc zero, omega arith, refl) in
    let same = in_one (codes "a", codes "object") (codes "b", codes "object") there in
    true≢false (sym ((same_numbers-decides (codes "b") (codes "a")).1 (ap (λ e. e.0) same)))

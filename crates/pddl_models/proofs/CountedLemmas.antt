-- Words declare no more things than there are words.
use Rattle.std.proofs.Common.{◌≡◌, ℕ, ◌≤◌, suc, List, [], ◌∷◌, length, ap, ◌∙◌, arith}
use Rattle.std.specs.Prelude.{not, filter}
use Rattle.std.proofs.lemmas.List.{length-map}
use Rattle.mre_base.specs.declared.text.Text.{Text}
use Rattle.mre_base.proofs.Listed.{filter_few}
use Rattle.model_kit.specs.declared.vocabulary.Vocabulary.{Vocabulary}
use Rattle.pddl_names.specs.declared.role.Role.{Role}
use Rattle.pddl_names.specs.declared.role.Role.TheVariants as role
use Rattle.pddl_names.specs.declared.role.Word.{Word}
use Rattle.pddl_names.specs.Listings.{Typed, Signed, with_object, with_predicate, with_function, objects_listed, predicates_in, functions_in, types_of, own_params, type_behind}
use Rattle.pddl_vocabulary.specs.Values.{firsts, place_in, same_entry, signature_said, is_total, type_names, objects_said, SaysWords}
use Rattle.pddl_vocabulary.proofs.FewLemmas.{firsts_few}
use Rattle.pddl_vocabulary.proofs.ObjectLemmas.{objects_listed_few}

predicate_count : (r : Role) (e : Signed) (more : List Signed) (n : ℕ) → length more ≤ n → length (with_predicate r e more) ≤ suc n
predicate_count role.Predicate e more n le = omega (arith, le)
predicate_count _ e more n le = omega (arith, le)

function_count : (r : Role) (e : Signed) (more : List Signed) (n : ℕ) → length more ≤ n → length (with_function r e more) ≤ suc n
function_count role.Function e more n le = omega (arith, le)
function_count _ e more n le = omega (arith, le)

predicates_count : (words : List Word) → length (predicates_in words) ≤ length words
predicates_count [] = omega arith
predicates_count (w ∷ rest) = predicate_count w.role (w.text, types_of (own_params rest)) (predicates_in rest) (length rest) (predicates_count rest)

functions_count : (words : List Word) → length (functions_in words) ≤ length words
functions_count [] = omega arith
functions_count (w ∷ rest) = function_count w.role (w.text, types_of (own_params rest)) (functions_in rest) (length rest) (functions_count rest)

module _ (said : List Word) (words : Vocabulary) (says : SaysWords said words) where
  pub few_predicates : length words.predicates ≤ length said
  few_predicates =
      let count : length words.predicates ≡ length (predicates_in said) = ap length says.predicates ∙ length-map (predicates_in said) (signature_said (type_names said)) in
      let le = predicates_count said in omega (arith, count, le)

  pub few_functions : length words.functions ≤ length said
  few_functions =
      let kept : List Signed = filter (λ s. not (is_total s)) (functions_in said) in
      let count : length words.functions ≡ length kept = ap length says.functions ∙ length-map kept (signature_said (type_names said)) in
      let le = functions_count said in
      let fewer = filter_few (λ s. not (is_total s)) (functions_in said) in omega (arith, count, le, fewer)

  pub few_objects : length words.objects ≤ length said
  few_objects =
      let made : List (Text × ℕ) = objects_said (type_names said) said in
      let count : length words.objects ≡ length (firsts same_entry (objects_listed said)) =
      ap length says.objects ∙ length-map (firsts same_entry (objects_listed said)) (λ (e : Typed). let entry : Text × ℕ = (e.0, place_in (type_names said) e.1) in entry) in
      let le = objects_listed_few said in
      let fewer = firsts_few same_entry (objects_listed said) in omega (arith, count, le, fewer)

-- There is one list of all differences of two models.
use Rattle.std.proofs.Common.{◌≡◌, ◌||◌, true, ℕ, List, ◌∷◌, sym, subst, ◌∙◌, arith, ⊎_elim}
use Rattle.std.specs.Prelude.{Contains}
use Rattle.std.specs.List.{list_any}
use Rattle.std.proofs.lemmas.Bool.{cases_Bool}
use Rattle.mre_base.proofs.OneList.{one_list, less_one_way}
use Rattle.model_kit.specs.declared.vocabulary.Vocabulary.{Vocabulary}
use Rattle.model_kit.specs.Places.{Place, Meaning, same_place}
use Rattle.model_kit.specs.Printed.{printed}
use Rattle.model_kit.specs.Differences.{AreDifferences, IsListedBefore}
use Rattle.model_kit.proofs.PlaceLemmas.{listed_place, unlisted_place}

pub listed_one_way : (words : Vocabulary) (p q : Place) → IsListedBefore words p q → IsListedBefore words q p → ⊥
listed_one_way words p q first second =
    ⊎_elim
    (λ less. ⊎_elim (λ more. omega (arith, less, more)) (λ tie. omega (arith, less, tie.0)) second)
    (λ tie. ⊎_elim (λ more. omega (arith, tie.0, more)) (λ other. less_one_way (printed words p) (printed words q) tie.1 other.1) second)
    first

module _ (words : Vocabulary) (planner user : Meaning) where
  -- a place of one list is one of the other
  in_other : (xs ys : List Place) → AreDifferences words planner user xs → AreDifferences words planner user ys → (p : Place) → Contains xs p → Contains ys p
  in_other xs ys first second p there =
      ⊎_elim (λ listed. listed_place p ys listed) (λ unlisted. absurd (first.differ p there (second.agree p (unlisted_place p ys unlisted)))) (cases_Bool (list_any (λ q. same_place q p) ys))

  pub same_differences : (ps qs : List Place) → AreDifferences words planner user ps → AreDifferences words planner user qs → ps ≡ qs
  same_differences ps qs one other =
      one_list (IsListedBefore words) (listed_one_way words) ps qs one.ordered other.ordered (in_other ps qs one other) (in_other qs ps other one)

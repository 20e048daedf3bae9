-- An action has a cost after some set of differences exactly if its cost has a number.
use Rattle.std.proofs.Common.{◌≡◌, ℕ, true, ◌||◌, not, cond, is_some, [], Option, None, Some, refl, sym, ap, ◌∙◌}
use Rattle.std.specs.Prelude.{IsSome}
use Rattle.std.specs.Ordering.{nat_cmp}
use Rattle.std.specs.FinSet as set
use Rattle.std.specs.FinSet.{contains-empty}
use Rattle.std.proofs.lemmas.Bool.{false≢true}
use Rattle.cube_kit.specs.Cubes.{Told, CubeMeaning, is_member}
use Rattle.cube_kit.proofs.CubeLemmas.{member_from}
use Rattle.case_kit.specs.declared.way.Way.TheVariants.{Permissive}
use Rattle.case_kit.specs.declared.cases.When.{When}
use Rattle.case_kit.specs.declared.cases.When.TheVariants.{Always, IfTold, IfLeft}
use Rattle.case_kit.specs.declared.costs.CaseValue.{CaseValue}
use Rattle.case_kit.specs.declared.costs.CaseValue.TheVariants as values
use Rattle.case_kit.specs.declared.costs.CaseCost.{CaseCost}
use Rattle.case_kit.specs.declared.costs.CaseCost.TheVariants as costs
use Rattle.case_kit.specs.declared.action.CaseAction.{CaseAction}
use Rattle.case_kit.specs.Parts.{has_value, has_cost}
use Rattle.case_kit.specs.Sound.{is_apart, is_beside}
use Rattle.case_kit.specs.Members.{cost_if_known}
use Rattle.case_kit.specs.Evaluated.{may_hold, least_of, value_by, cost_by, known_cost_by}
use Rattle.case_kit.proofs.PriceLemmas.{known_bound, known_some}
use Rattle.case_kit.proofs.EasierLemmas.{cheaper}

-- the cube that decides nothing, of which every set is a member
abbrev free : CubeMeaning
free = record { told = set.empty; left = set.empty; undecided = set.empty }

in_free : (s : Told) → is_member free s ≡ true
in_free s = member_from free s (λ k there. absurd (false≢true (sym (contains-empty nat_cmp k) ∙ there))) (λ k there. absurd (false≢true (sym (contains-empty nat_cmp k) ∙ there)))

some_least : (x y : Option ℕ) → is_some (least_of x y) ≡ (is_some x || is_some y)
some_least None y = refl
some_least (Some m) None = refl
some_least (Some m) (Some n) = refl

value_free : (value : CaseValue) → is_some (value_by Permissive free value) ≡ has_value value
value_free (values.One value) = refl
value_free (values.Two place told left) =
    ap (λ b. is_some (cond b told (cond b left (least_of told left)))) (contains-empty nat_cmp place) ∙ some_least told left

cost_free : (cost : CaseCost) → is_some (cost_by Permissive free cost) ≡ has_cost cost
cost_free (costs.One value) = value_free value
cost_free (costs.Two place told left) =
    ap (λ b. is_some (cond b (value_by Permissive free told) (cond b (value_by Permissive free left) (least_of (value_by Permissive free told) (value_by Permissive free left))))) (contains-empty nat_cmp place)
    ∙ some_least (value_by Permissive free told) (value_by Permissive free left) ∙ (λ i. value_free told i || value_free left i)

known_free : (known : When) → may_hold free known ≡ true
known_free Always = refl
known_free (IfTold place) = ap not (contains-empty nat_cmp place)
known_free (IfLeft place) = ap not (contains-empty nat_cmp place)

module _ (cost : CaseCost) (known : When) (apart : is_apart cost ≡ true) (beside : is_beside cost known ≡ true) where
  -- an action whose other parts don't matter
  bare : CaseAction
  bare = record { pre = []; add = []; del = []; cost = cost; known = known }

  priced : is_some (cond (may_hold free known) (cost_by Permissive free cost) None) ≡ has_cost cost
  priced = ap (λ b. is_some (cond b (cost_by Permissive free cost) None)) (known_free known) ∙ cost_free cost

  pub ever_there : has_cost cost ≡ true → (told : Told) × IsSome (cost_if_known told known cost)
  unfolding bare
  ever_there has =
      let some = known_some Permissive free set.empty bare apart beside (in_free set.empty) in
      (some.0, ap is_some some.2 ∙ priced ∙ has)

  pub ever_back : (told : Told) × IsSome (cost_if_known told known cost) → has_cost cost ≡ true
  unfolding bare
  ever_back (told, there) = sym priced ∙ (cheaper (known_cost_by Permissive free bare) (cost_if_known told known cost) (known_bound Permissive free told bare (in_free told)) there).0

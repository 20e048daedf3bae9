-- The cost of an action in a task of a cube bounds its cost in each member, and some member has it.
use Rattle.std.proofs.Common.{◌≡◌, ℕ, Bool, true, false, ◌||◌, not, cond, Option, None, refl, sym, ap, ◌∙◌, subst, inl, inr}
use Rattle.std.specs.FinSet as set
use Rattle.std.proofs.lemmas.Bool.{and_parts, false≢true, not-true, false_from_ne_true}
use Rattle.cube_kit.specs.Cubes.{Told, CubeMeaning, is_member}
use Rattle.cube_kit.proofs.CubeLemmas.{member_has, member_lacks}
use Rattle.case_kit.specs.declared.way.Way.{Way}
use Rattle.case_kit.specs.declared.way.Way.TheVariants.{Permissive, Restrictive}
use Rattle.case_kit.specs.declared.cases.When.{When}
use Rattle.case_kit.specs.declared.cases.When.TheVariants.{Always, IfTold, IfLeft}
use Rattle.case_kit.specs.declared.costs.CaseValue.{CaseValue}
use Rattle.case_kit.specs.declared.costs.CaseValue.TheVariants as values
use Rattle.case_kit.specs.declared.costs.CaseCost.{CaseCost}
use Rattle.case_kit.specs.declared.costs.CaseCost.TheVariants as costs
use Rattle.case_kit.specs.declared.action.CaseAction.{CaseAction}
use Rattle.case_kit.specs.Parts.{stands_in_value, stands_in_cost}
use Rattle.case_kit.specs.Sound.{is_apart, is_beside}
use Rattle.case_kit.specs.Members.{holds, value_after, cost_after, known_cost_after}
use Rattle.case_kit.specs.Relaxed.{SomeMember, IsLeastCost, IsGreatestCost}
use Rattle.case_kit.specs.Evaluated.{must_hold, counts, best_of, value_by, cost_by, known_cost_by}
use Rattle.case_kit.proofs.BestLemmas.{Bounds, bounds-itself, bounds-trans, best_first, best_second, best_picks}
use Rattle.case_kit.proofs.MemberLemmas.{IsMoved, move_in, move_out, must_holds, holds_may, IsSomewhere, may_somewhere, must_not_somewhere}

-- ---- the decision at a place: the first value if the cube has it told, the second if it has it
-- left, and the better of the two if it is open
abbrev pub decided : Way → Bool → Bool → Option ℕ → Option ℕ → Option ℕ
decided way told left x y = cond told x (cond left y (best_of way x y))

decided_bound : (way : Way) (told left has : Bool) (x y : Option ℕ) → (told ≡ true → has ≡ true) → (left ≡ true → has ≡ false) → Bounds way (decided way told left x y) (cond has x y)
decided_bound way true left true x y h l = bounds-itself way x
decided_bound way true left false x y h l = absurd (false≢true (h refl))
decided_bound way false true true x y h l = absurd (false≢true (sym (l refl)))
decided_bound way false true false x y h l = bounds-itself way y
decided_bound way false false true x y h l = best_first way x y
decided_bound way false false false x y h l = best_second way x y

-- a member that has the place or lacks it, and whose value is the decided one
pub record IsChosen (way : Way) (cube : CubeMeaning) (from : Told) (place : ℕ) (x y : Option ℕ) (has : Bool) (to : Told) : Type 0 where
  pub moved : IsMoved cube from place has to
  pub is : decided way (set.contains cube.told place) (set.contains cube.left place) x y ≡ cond has x y

stays : (cube : CubeMeaning) (from : Told) (place : ℕ) (has : Bool) → is_member cube from ≡ true → set.contains from place ≡ has → IsMoved cube from place has from
stays cube from place has member at = record { member = member; at = at; others = λ k apart. refl }

choose : (way : Way) (cube : CubeMeaning) (from : Told) (place : ℕ) (x y : Option ℕ) → is_member cube from ≡ true → (has : Bool) × (to : Told) × IsChosen way cube from place x y has to
choose way cube from place x y member = by (set.contains cube.told place) (set.contains cube.left place) refl refl where
  at_both : (b c : Bool) → set.contains cube.told place ≡ b → set.contains cube.left place ≡ c → decided way (set.contains cube.told place) (set.contains cube.left place) x y ≡ decided way b c x y
  at_both b c t l = λ i. decided way (t i) (l i) x y

  by : (b c : Bool) → set.contains cube.told place ≡ b → set.contains cube.left place ≡ c → (has : Bool) × (to : Told) × IsChosen way cube from place x y has to
  by true c t l = (true, from, record { moved = stays cube from place true member (member_has cube from member place t); is = at_both true c t l })
  by false true t l = (false, from, record { moved = stays cube from place false member (member_lacks cube from member place l); is = at_both false true t l })
  by false false t l =
      elim (best_picks way x y) [
        | inl first ↦ (true, set.insert from place, record { moved = move_in cube from place member l; is = at_both false false t l ∙ first })
        | inr second ↦ (false, set.remove from place, record { moved = move_out cube from place member t; is = at_both false false t l ∙ second })
      ]

-- ---- values
-- another member, which differs at most at these numbers
pub record IsAdapted (cube : CubeMeaning) (from : Told) (stands : ℕ → Bool) (to : Told) : Type 0 where
  pub member : is_member cube to ≡ true
  pub others : (k : ℕ) → stands k ≡ false → set.contains to k ≡ set.contains from k

value_bound : (way : Way) (cube : CubeMeaning) (s : Told) (value : CaseValue) → is_member cube s ≡ true → Bounds way (value_by way cube value) (value_after s value)
value_bound way cube s (values.One value) member = bounds-itself way value
value_bound way cube s (values.Two place told left) member =
    decided_bound way (set.contains cube.told place) (set.contains cube.left place) (set.contains s place) told left (member_has cube s member place) (member_lacks cube s member place)

value_some : (way : Way) (cube : CubeMeaning) (from : Told) (value : CaseValue) → is_member cube from ≡ true
    → (to : Told) × IsAdapted cube from (stands_in_value value) to × (value_after to value ≡ value_by way cube value)
value_some way cube from (values.One value) member = (from, record { member = member; others = λ k apart. refl }, refl)
value_some way cube from (values.Two place told left) member =
    let chosen = choose way cube from place told left member in
    (chosen.1, record { member = chosen.2.moved.member; others = chosen.2.moved.others }, ap (λ b. cond b told left) chosen.2.moved.at ∙ sym chosen.2.is)

-- ---- costs
cost_bound : (way : Way) (cube : CubeMeaning) (s : Told) (cost : CaseCost) → is_member cube s ≡ true → Bounds way (cost_by way cube cost) (cost_after s cost)
cost_bound way cube s (costs.One value) member = value_bound way cube s value member
cost_bound way cube s (costs.Two place told left) member =
    bounds-trans way _ (cond (set.contains s place) (value_by way cube told) (value_by way cube left)) _
    (decided_bound way (set.contains cube.told place) (set.contains cube.left place) (set.contains s place) (value_by way cube told) (value_by way cube left) (member_has cube s member place) (member_lacks cube s member place))
    (by (set.contains s place))
  where
    by : (b : Bool) → Bounds way (cond b (value_by way cube told) (value_by way cube left)) (cond b (value_after s told) (value_after s left))
    by true = value_bound way cube s told member
    by false = value_bound way cube s left member

pub or_false : (a b : Bool) → (a || b) ≡ false → (a ≡ false) × (b ≡ false)
or_false true b e = absurd (false≢true (sym e))
or_false false b e = (refl, e)

cost_some : (way : Way) (cube : CubeMeaning) (from : Told) (cost : CaseCost) → is_apart cost ≡ true → is_member cube from ≡ true
    → (to : Told) × IsAdapted cube from (stands_in_cost cost) to × (cost_after to cost ≡ cost_by way cube cost)
cost_some way cube from (costs.One value) apart member = value_some way cube from value member
cost_some way cube from (costs.Two place told left) apart member = by (choose way cube from place (value_by way cube told) (value_by way cube left) member) where
  beyond : (value : CaseValue) (mid to : Told) (has : Bool) → IsMoved cube from place has mid → IsAdapted cube mid (stands_in_value value) to → ((k : ℕ) → stands_in_cost (costs.Two place told left) k ≡ false → stands_in_value value k ≡ false)
      → IsAdapted cube from (stands_in_cost (costs.Two place told left)) to
  beyond value mid to has moved adapted inner =
      record { member = adapted.member; others = λ k none. adapted.others k (inner k none) ∙ moved.others k (or_false _ _ none).0 }

  at_place : (value : CaseValue) (mid to : Told) (has : Bool) → IsMoved cube from place has mid → IsAdapted cube mid (stands_in_value value) to → stands_in_value value place ≡ false
      → cost_after to (costs.Two place told left) ≡ cond has (value_after to told) (value_after to left)
  at_place value mid to has moved adapted none = ap (λ b. cond b (value_after to told) (value_after to left)) (adapted.others place none ∙ moved.at)

  by : (has : Bool) × (mid : Told) × IsChosen way cube from place (value_by way cube told) (value_by way cube left) has mid
      → (to : Told) × IsAdapted cube from (stands_in_cost (costs.Two place told left)) to × (cost_after to (costs.Two place told left) ≡ cost_by way cube (costs.Two place told left))
  by (true, mid, chosen) =
      let some = value_some way cube mid told chosen.moved.member in (
        some.0,
        beyond told mid some.0 true chosen.moved some.1 (λ k none. (or_false _ _ (or_false _ _ none).1).0),
        at_place told mid some.0 true chosen.moved some.1 (not-true _ (and_parts _ _ apart).0) ∙ some.2 ∙ sym chosen.is,
      )
  by (false, mid, chosen) =
      let some = value_some way cube mid left chosen.moved.member in (
        some.0,
        beyond left mid some.0 false chosen.moved some.1 (λ k none. (or_false _ _ (or_false _ _ none).1).1),
        at_place left mid some.0 false chosen.moved some.1 (not-true _ (and_parts _ _ apart).1) ∙ some.2 ∙ sym chosen.is,
      )

-- ---- an action that may be unknown
-- a condition whose number isn't changed keeps its answer
known_kept : (cost : CaseCost) (cube : CubeMeaning) (from to : Told) (when : When) → is_beside cost when ≡ true → IsAdapted cube from (stands_in_cost cost) to → holds to when ≡ holds from when
known_kept cost cube from to Always beside adapted = refl
known_kept cost cube from to (IfTold place) beside adapted = adapted.others place (not-true _ beside)
known_kept cost cube from to (IfLeft place) beside adapted = ap not (adapted.others place (not-true _ beside))

-- a condition that counts holds in some member, and one that doesn't fails in some member
counts_somewhere : (way : Way) (cube : CubeMeaning) (from : Told) (when : When) (b : Bool) → is_member cube from ≡ true → counts way cube when ≡ b → IsSomewhere cube when b
counts_somewhere Permissive cube from when true member e = may_somewhere cube from when member e
counts_somewhere Permissive cube from when false member e = (from, member, false_from_ne_true _ (λ on. false≢true (sym e ∙ holds_may cube from when member on)))
counts_somewhere Restrictive cube from when true member e = (from, member, must_holds cube from when member e)
counts_somewhere Restrictive cube from when false member e = must_not_somewhere cube from when member e

pub known_bound : (way : Way) (cube : CubeMeaning) (s : Told) (action : CaseAction) → is_member cube s ≡ true → Bounds way (known_cost_by way cube action) (known_cost_after s action)
known_bound Permissive cube s action member = by (holds s action.known) refl where
  by : (b : Bool) → holds s action.known ≡ b → Bounds Permissive (known_cost_by Permissive cube action) (cond b (cost_after s action.cost) None)
  by false off = tt
  by true on =
      subst (λ b. Bounds Permissive (cond b (cost_by Permissive cube action.cost) None) (cost_after s action.cost)) (sym (holds_may cube s action.known member on)) (cost_bound Permissive cube s action.cost member)
known_bound Restrictive cube s action member = by (must_hold cube action.known) refl where
  by : (b : Bool) → must_hold cube action.known ≡ b → Bounds Restrictive (cond b (cost_by Restrictive cube action.cost) None) (known_cost_after s action)
  by false off = tt
  by true on =
      subst (λ b. Bounds Restrictive (cost_by Restrictive cube action.cost) (cond b (cost_after s action.cost) None)) (sym (must_holds cube s action.known member on)) (cost_bound Restrictive cube s action.cost member)

pub known_some : (way : Way) (cube : CubeMeaning) (from : Told) (action : CaseAction) → is_apart action.cost ≡ true → is_beside action.cost action.known ≡ true → is_member cube from ≡ true
    → SomeMember cube (λ s. known_cost_after s action ≡ known_cost_by way cube action)
known_some way cube from action apart beside member = by (counts way cube action.known) refl where
  by : (b : Bool) → counts way cube action.known ≡ b → SomeMember cube (λ s. known_cost_after s action ≡ known_cost_by way cube action)
  by true e =
      let there = counts_somewhere way cube from action.known true member e in
      let some = cost_some way cube there.0 action.cost apart there.1 in (
        some.0,
        some.1.member,
        ap (λ b. cond b (cost_after some.0 action.cost) None) (known_kept action.cost cube there.0 some.0 action.known beside some.1 ∙ there.2) ∙ some.2
            ∙ sym (ap (λ b. cond b (cost_by way cube action.cost) None) e),
      )
  by false e =
      let there = counts_somewhere way cube from action.known false member e in
      (there.0, there.1, ap (λ b. cond b (cost_after there.0 action.cost) None) there.2 ∙ sym (ap (λ b. cond b (cost_by way cube action.cost) None) e))

pub least_cost : (cube : CubeMeaning) (action : CaseAction) → is_member cube cube.told ≡ true → is_apart action.cost ≡ true → is_beside action.cost action.known ≡ true
    → IsLeastCost cube (λ s. known_cost_after s action) (known_cost_by Permissive cube action)
least_cost cube action live apart beside =
    record { some = known_some Permissive cube cube.told action apart beside live; least = λ s member. known_bound Permissive cube s action member }

pub greatest_cost : (cube : CubeMeaning) (action : CaseAction) → is_member cube cube.told ≡ true → is_apart action.cost ≡ true → is_beside action.cost action.known ≡ true
    → IsGreatestCost cube (λ s. known_cost_after s action) (known_cost_by Restrictive cube action)
greatest_cost cube action live apart beside =
    record { some = known_some Restrictive cube cube.told action apart beside live; greatest = λ s member. known_bound Restrictive cube s action member }

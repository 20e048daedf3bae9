-- An action in which a difference has no part is the same once that difference is decided.
use Rattle.std.proofs.Common.{◌≡◌, ℕ, zero, suc, ◌+◌, Bool, true, false, ◌||◌, not, nat_eq, cond, List, [], ◌∷◌, ◌++◌, take, None, Some, All, refl, sym, ap, ◌∙◌, arith}
use Rattle.std.specs.List.{list_any}
use Rattle.std.specs.Prelude.{slice_get}
use Rattle.std.specs.FinSet as set
use Rattle.std.proofs.lemmas.Bool.{or_left, or_right}
use Rattle.std.proofs.lemmas.Option.{slice_get_past}
use Rattle.std.proofs.lemmas.List.Elements.{All-nil, All-cons}
use Rattle.mre_base.specs.declared.kind.Side.{Side}
use Rattle.mre_base.specs.declared.kind.Side.TheVariants as sides
use Rattle.mre_base.proofs.SetsBelow.{contains-insert_nat}
use Rattle.cube_kit.specs.Cubes.{Told, CubeMeaning}
use Rattle.cube_kit.specs.Child.{child}
use Rattle.case_kit.specs.declared.way.Way.{Way}
use Rattle.case_kit.specs.declared.way.Way.TheVariants.{Permissive, Restrictive}
use Rattle.case_kit.specs.declared.cases.When.{When}
use Rattle.case_kit.specs.declared.cases.When.TheVariants.{Always, IfTold, IfLeft}
use Rattle.case_kit.specs.declared.cases.Case.{Case}
use Rattle.case_kit.specs.declared.costs.CaseValue.{CaseValue}
use Rattle.case_kit.specs.declared.costs.CaseValue.TheVariants as values
use Rattle.case_kit.specs.declared.costs.CaseCost.{CaseCost}
use Rattle.case_kit.specs.declared.costs.CaseCost.TheVariants as costs
use Rattle.case_kit.specs.declared.action.CaseAction.{CaseAction}
use Rattle.case_kit.specs.Parts.{stands_in_value, stands_in_cost, speaks_of}
use Rattle.case_kit.specs.Evaluated.{may_hold, must_hold, counts, opposite, value_by, cost_by, known_cost_by}
use Rattle.case_kit.specs.Laws.{ChildLaw}
use Rattle.mre_base.proofs.Loops.{take_item}
use Rattle.case_kit.proofs.PriceLemmas.{decided, or_false}
use Rattle.case_kit.proofs.RelaxedLemmas.{action_there}
use Rattle.case_kit.proofs.TableLemmas.{action_agree}

none_passes : {X : Type 0} (p : X → Bool) (xs : List X) → list_any p xs ≡ false → All (λ x. p x ≡ false) xs
none_passes p [] none = All-nil (λ x. p x ≡ false)
none_passes p (x ∷ xs) none = let parts = or_false _ _ none in All-cons (λ x. p x ≡ false) x xs parts.0 (none_passes p xs parts.1)

-- a case that passes
pub one_passes : {X : Type 0} (p : X → Bool) (xs : List X) (i : ℕ) (x : X) → slice_get xs i ≡ Some x → p x ≡ true → true ≡ list_any p xs
one_passes p [] i x at on = let none : None ≡ Some x = sym (slice_get_past [] i (omega arith)) ∙ at in absurd (cc)
one_passes p (y ∷ ys) zero x at on = let same : y ≡ x = cc in sym (or_left (p y) (list_any p ys) (ap p same ∙ on))
one_passes p (y ∷ ys) (suc i) x at on = sym (or_right (p y) (list_any p ys) (sym (one_passes p ys i x at on)))

module _ (cube : CubeMeaning) (place : ℕ) where
  other : (s : Told) (k : ℕ) → nat_eq k place ≡ false → set.contains (set.insert s place) k ≡ set.contains s k
  other s k apart = contains-insert_nat s place k ∙ ap (λ b. b || set.contains s k) apart

  told_same : (side : Side) (k : ℕ) → nat_eq k place ≡ false → set.contains (child cube place side).told k ≡ set.contains cube.told k
  told_same sides.Told k apart = other cube.told k apart
  told_same sides.Left k apart = refl

  left_same : (side : Side) (k : ℕ) → nat_eq k place ≡ false → set.contains (child cube place side).left k ≡ set.contains cube.left k
  left_same sides.Told k apart = refl
  left_same sides.Left k apart = other cube.left k apart

  module _ (side : Side) where
    may_same : (when : When) → speaks_of when place ≡ false → may_hold (child cube place side) when ≡ may_hold cube when
    may_same Always off = refl
    may_same (IfTold k) off = ap not (left_same side k off)
    may_same (IfLeft k) off = ap not (told_same side k off)

    must_same : (when : When) → speaks_of when place ≡ false → must_hold (child cube place side) when ≡ must_hold cube when
    must_same Always off = refl
    must_same (IfTold k) off = told_same side k off
    must_same (IfLeft k) off = left_same side k off

    counts_same : (way : Way) (when : When) → speaks_of when place ≡ false → counts way (child cube place side) when ≡ counts way cube when
    counts_same Permissive when off = may_same when off
    counts_same Restrictive when off = must_same when off

    value_same : (way : Way) (value : CaseValue) → stands_in_value value place ≡ false → value_by way (child cube place side) value ≡ value_by way cube value
    value_same way (values.One value) off = refl
    value_same way (values.Two k told left) off = λ i. decided way (told_same side k off i) (left_same side k off i) told left

    cost_same : (way : Way) (cost : CaseCost) → stands_in_cost cost place ≡ false → cost_by way (child cube place side) cost ≡ cost_by way cube cost
    cost_same way (costs.One value) off = value_same way value off
    cost_same way (costs.Two k told left) off =
        let parts = or_false _ _ off in
        let both = or_false _ _ parts.1 in
        λ i. decided way (told_same side k parts.0 i) (left_same side k parts.0 i) (value_same way told both.0 i) (value_same way left both.1 i)

    known_same : (way : Way) (a : CaseAction) → speaks_of a.known place ≡ false → stands_in_cost a.cost place ≡ false → known_cost_by way (child cube place side) a ≡ known_cost_by way cube a
    known_same way a known off = λ i. cond (counts_same way a.known known i) (cost_same way a.cost off i) None

pub child_law : ChildLaw
child_law way table cube place side i a at off =
    let pre = or_false _ _ off in
    let add = or_false _ _ pre.1 in
    let del = or_false _ _ add.1 in
    let known = or_false _ _ del.1 in
    action_there (counts way (child cube place side)) (counts (opposite way) (child cube place side)) (known_cost_by way (child cube place side)) table i a at
    ∙ action_agree (λ when. speaks_of when place ≡ false) (counts way (child cube place side)) (counts (opposite way) (child cube place side)) (known_cost_by way (child cube place side)) (counts way cube) (counts (opposite way) cube)
    (known_cost_by way cube) a
    (record { pre = none_passes (λ (c : Case). speaks_of c.when place) a.pre pre.0; add = none_passes (λ (c : Case). speaks_of c.when place) a.add add.0; del = none_passes (λ (c : Case). speaks_of c.when place) a.del del.0 })
    (counts_same cube place side way) (counts_same cube place side (opposite way)) (known_same cube place side way a known.0 known.1)
    ∙ sym (action_there (counts way cube) (counts (opposite way) cube) (known_cost_by way cube) table i a at)

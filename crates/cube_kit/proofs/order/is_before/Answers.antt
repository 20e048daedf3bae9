use Rattle.std.proofs.Common.{◌≡◌, ◌≤◌, length, nat_lt, sym, ◌∙◌, arith}
use Rattle.mre_base.specs.Before.{numbers, is_before}
use Rattle.cube_kit.proofs.OrderLemmas.{before_narrow, before_by_weight, before_by_size, before_by_list, count-numbers}
use Rattle.cube_kit.proofs.order.is_before.Goals.{Then-total_of_one-total_of_two, Then-many-other, After-places, After-is_earlier}
use Rattle.cube_kit.proofs.order.is_before.Goals as goal

-- the weights differ
by_weight : (c : Then-total_of_one-total_of_two) → nat_lt c.total-total_of_one.result c.total-total_of_two.result ≡ is_before c.args.weights.now c.args.one.now c.args.two.now
by_weight c = before_by_weight c.args.weights.now c.args.one.now c.args.two.now _ _ c.total-total_of_one.ensures.total c.total-total_of_two.ensures.total c.if-total_of_one-total_of_two.true

pub returns-then-total_of_one-total_of_two-clause-narrow : goal.returns-then-total_of_one-total_of_two-clause-narrow
returns-then-total_of_one-total_of_two-clause-narrow c d few in_one in_two =
    let le : d ≤ length c.args.weights.now = omega (arith, c.total-total_of_one.ensures.weights.whole) in
    by_weight c ∙ sym (before_narrow c.args.weights.now d c.args.one.now c.args.two.now le in_one in_two)

-- the weights are equal, and the sizes differ
by_size : (c : Then-many-other) → nat_lt c.count-many.result c.count-other.result ≡ is_before c.args.weights.now c.args.one.now c.args.two.now
by_size c =
    let ws = c.args.weights.now in
    let whole = c.total-total_of_one.ensures.weights.whole in
    before_by_size ws c.args.one.now c.args.two.now _ _ _ _ c.total-total_of_one.ensures.total c.total-total_of_two.ensures.total c.if-total_of_one-total_of_two.false
    (c.count-many.ensures.count ∙ count-numbers ws c.args.one.now whole) (c.count-other.ensures.count ∙ count-numbers ws c.args.two.now whole) c.if-many-other.true

pub returns-then-many-other-clause-is : goal.returns-then-many-other-clause-is
returns-then-many-other-clause-is c = by_size c

pub returns-then-many-other-clause-narrow : goal.returns-then-many-other-clause-narrow
returns-then-many-other-clause-narrow c d few in_one in_two =
    let le : d ≤ length c.args.weights.now = omega (arith, c.total-total_of_one.ensures.weights.whole) in
    by_size c ∙ sym (before_narrow c.args.weights.now d c.args.one.now c.args.two.now le in_one in_two)

-- the sizes are equal too
as_many : (c : After-places) → length (numbers (length c.args.weights.now) c.args.one.now) ≡ length (numbers (length c.args.weights.now) c.args.two.now)
as_many c =
    let ws = c.args.weights.now in
    let whole = c.total-total_of_one.ensures.weights.whole in
    sym (c.count-many.ensures.count ∙ count-numbers ws c.args.one.now whole) ∙ c.if-many-other.false ∙ (c.count-other.ensures.count ∙ count-numbers ws c.args.two.now whole)

pub is_earlier-requires-clause-as_many : goal.is_earlier-requires-clause-as_many
is_earlier-requires-clause-as_many c = rw c.places.ensures.places (as_many c)

by_list : (c : After-is_earlier) → c.is_earlier.result ≡ is_before c.args.weights.now c.args.one.now c.args.two.now
by_list c =
    before_by_list c.args.weights.now c.args.one.now c.args.two.now c.places.result _
    (sym c.total-total_of_one.ensures.total ∙ c.if-total_of_one-total_of_two.false ∙ c.total-total_of_two.ensures.total) (as_many (goal.at.returns-clause-is c).After-places) c.places.ensures.places c.is_earlier.ensures

pub returns-clause-is : goal.returns-clause-is
returns-clause-is c = by_list c

pub returns-clause-narrow : goal.returns-clause-narrow
returns-clause-narrow c d few in_one in_two =
    let le : d ≤ length c.args.weights.now = omega (arith, c.total-total_of_one.ensures.weights.whole) in
    by_list c ∙ sym (before_narrow c.args.weights.now d c.args.one.now c.args.two.now le in_one in_two)

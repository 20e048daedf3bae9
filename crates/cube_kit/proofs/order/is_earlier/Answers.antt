use Rattle.std.proofs.Common.{◌∙◌, ◌+◌}
use Rattle.std.specs.FinSet as set
use Rattle.cube_kit.proofs.WalkLemmas.{rest_of, none_of, same_test, apart_test, earlier_start, earlier_next, earlier_here, earlier_none}
use Rattle.cube_kit.proofs.order.is_earlier.Goals as goal

pub loop-place-init : goal.loop-place-init
loop-place-init c = earlier_start (set.contains c.args.one.now) (set.contains c.args.two.now) c.args.d c.requires.as_many

pub returns-then-has : goal.returns-then-has
returns-then-has c =
    c.has-has.ensures
    ∙ earlier_here (set.contains c.args.one.now) (set.contains c.args.two.now) c.loop-place.place _ _ _ (rest_of (c.args.d + 1) c.loop-place.place c.loop-place-test.true)
    (apart_test _ _ _ _ c.has-has.ensures c.has.ensures c.if-has.true) c.loop-place.invariant

pub loop-place-preserved : goal.loop-place-preserved
loop-place-preserved c =
    earlier_next (set.contains c.args.one.now) (set.contains c.args.two.now) c.loop-place.place _ _ _ (rest_of (c.args.d + 1) c.loop-place.place c.loop-place-test.true)
    (same_test _ _ _ _ c.has-has.ensures c.has.ensures c.if-has.false) c.loop-place.invariant

pub returns : goal.returns
returns c = earlier_none (set.contains c.args.one.now) (set.contains c.args.two.now) c.loop-place.place _ _ (none_of (c.args.d + 1) c.loop-place.place c.loop-place-test.false) c.loop-place.invariant

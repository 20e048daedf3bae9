use Rattle.std.proofs.Common.{◌≤◌, length, sym, ◌∙◌, arith}
use Rattle.std.specs.FinSet as set
use Rattle.cube_kit.proofs.WalkLemmas.{rest_of, none_of, fits_some, low_some, low_none, sum_start, sum_some, sum_none, sum_last}
use Rattle.cube_kit.proofs.order.sum_of.Goals.{then-has, else-has}
use Rattle.cube_kit.proofs.order.sum_of.Goals as goal

pub loop-place-init : goal.loop-place-init
loop-place-init c = record { whole = sum_start c.args.weights.now (set.contains c.args.of.now) 257 c.requires.whole; low = omega arith }

pub overflow_add-sum : goal.overflow_add-sum
overflow_add-sum c =
    let within : c.loop-place.place ≤ length c.args.weights.now = omega arith in
    fits_some c.loop-place.sum _ c.loop-place.place c.loop-place.invariant.low c.loop-place-test.true (c.requires.each c.loop-place.place c.loop-place.auto.place within).1

pub loop-place-preserved : goal.loop-place-preserved
loop-place-preserved c =
    let within : c.loop-place.place ≤ length c.args.weights.now = omega arith in
    let next = rest_of 257 c.loop-place.place c.loop-place-test.true in
    elim c.if-has.branch [
      | then-has w ↦
          record {
            whole = sum_some c.args.weights.now (set.contains c.args.of.now) c.loop-place.place _ _ c.loop-place.sum _ _ next (sym c.has.ensures ∙ w.if-has.true) w.sum-is c.loop-place.invariant.whole;
            low = low_some _ c.loop-place.sum _ c.loop-place.place w.sum-is c.loop-place.invariant.low (c.requires.each c.loop-place.place c.loop-place.auto.place within).1;
          }
      | else-has w ↦
          record {
            whole = sum_none c.args.weights.now (set.contains c.args.of.now) c.loop-place.place _ _ c.loop-place.sum _ _ next (sym c.has.ensures ∙ w.if-has.false) w.sum-is c.loop-place.invariant.whole;
            low = low_none _ c.loop-place.sum c.loop-place.place w.sum-is c.loop-place.invariant.low;
          }
    ]

pub returns : goal.returns
returns c =
    sum_last c.args.weights.now (set.contains c.args.of.now) c.loop-place.place _ c.loop-place.sum _ (none_of 257 c.loop-place.place c.loop-place-test.false) c.loop-place.invariant.whole

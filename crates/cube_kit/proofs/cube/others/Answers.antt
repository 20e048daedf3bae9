use Rattle.std.proofs.Common.{sym, ◌∙◌, arith}
use Rattle.cube_kit.proofs.ApartLemmas.{others_none, others_more, others_same, others_all}
use Rattle.cube_kit.proofs.cube.others.Goals.{then-not-has, else-not-has}
use Rattle.cube_kit.proofs.cube.others.Goals as goal

pub loop-place-init : goal.loop-place-init
loop-place-init c = others_none c.args.than.now c.none-others.result c.none-others.ensures

pub loop-place-preserved : goal.loop-place-preserved
loop-place-preserved c =
    elim c.if-not-has.branch [
      | then-not-has w ↦ others_more _ _ _ _ c.loop-place.auto.place (sym c.has.ensures ∙ w.if-not-has.true) (w.others-is ∙ w.with-others.ensures) c.loop-place.invariant
      | else-not-has w ↦ others_same _ _ _ _ (sym c.has.ensures ∙ w.if-not-has.false) w.others-is c.loop-place.invariant
    ]

pub returns : goal.returns
returns c = others_all c.args.d c.loop-place.place c.args.than.now c.loop-place.others c.loop-place-test.false (c.loop-place.auto.place-end (omega arith)) c.loop-place.invariant

use Rattle.std.proofs.Common.{sym, ◌∙◌, subst}
use Rattle.cube_kit.specs.Cubes.{IsWithin}
use Rattle.cube_kit.proofs.ApartLemmas.{within_none, within_more}
use Rattle.base_tests.proofs.cubes.set_to.Goals.{then-number-ge1+then-number-d, else-number-ge1}
use Rattle.base_tests.proofs.cubes.set_to.Goals as goal

pub loop-number-init : goal.loop-number-init
loop-number-init c = within_none c.args.d c.none-set.result c.none-set.ensures

pub loop-number-preserved : goal.loop-number-preserved
loop-number-preserved c =
    elim c.if-number-ge1.branch [
      | then-number-ge1+then-number-d w ↦ within_more c.args.d _ c.loop-number.set _ w.if-number-ge1.true w.if-number-d.true (w.set-is ∙ w.with-set.ensures) c.loop-number.invariant
      | else-number-ge1 w ↦ subst (IsWithin c.args.d) (sym w.set-is) c.loop-number.invariant
    ]

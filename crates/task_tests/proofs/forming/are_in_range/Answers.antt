use Rattle.std.proofs.Common.{All, subst, arith}
use Rattle.std.proofs.lemmas.List.{take_all}
use Rattle.bound_cert.specs.Formed.{IsInRange}
use Rattle.mre_base.proofs.Listed.{all_take_item}
use Rattle.task_tests.proofs.forming.are_in_range.Goals as goal

pub loop-place-preserved : goal.loop-place-preserved
loop-place-preserved c =
    all_take_item (IsInRange c.args.atoms) c.args.cuts.now c.loop-place.place c.item.result.now c.item.ensures c.loop-place.invariant (c.is_in_range.ensures c.if-not-is_in_range.false)

pub returns : goal.returns
returns c _ = subst (All (IsInRange c.args.atoms)) (take_all c.loop-place.place c.args.cuts.now (omega (arith, c.loop-place-test.false, c.len-place-end.ensures))) c.loop-place.invariant

use Rattle.std.proofs.Common.{arith}
use Rattle.model_kit.proofs.FitLemmas.{distinct_more, distinct_fails}
use Rattle.model_kit.proofs.entries.do_differ.Goals as goal

pub returns-then-is_again : goal.returns-then-is_again
returns-then-is_again g c =
    distinct_fails g.T.Entry.same c.args.entries.now c.loop-place.place c.loop-place-test.true (omega arith) _ c.is_again.ensures c.if-is_again.true

pub loop-place-preserved : goal.loop-place-preserved
loop-place-preserved g c =
    distinct_more g.T.Entry.same c.args.entries.now c.loop-place.place c.loop-place-test.true (omega arith) _ c.is_again.ensures c.loop-place.invariant c.if-is_again.false

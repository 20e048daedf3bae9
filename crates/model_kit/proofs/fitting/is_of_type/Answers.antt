use Rattle.std.proofs.Common.{sym, arith}
use Rattle.model_kit.proofs.TypeLemmas.{climbed_start, climbed_more, climbed_there, climbed_end}
use Rattle.model_kit.proofs.fitting.is_of_type.Goals as goal

pub loop-init : goal.loop-init
loop-init c = climbed_start c.args.types.now c.args.number c.args.above

pub loop-preserved : goal.loop-preserved
loop-preserved c = climbed_more c.args.types.now c.args.number c.args.above c.loop.counter c.loop.current c.parent-current.result c.loop.invariant c.if-current-above.false c.parent-current.ensures

pub returns-then-current-above : goal.returns-then-current-above
returns-then-current-above c = sym (climbed_there c.args.types.now c.args.number c.args.above c.loop.counter c.loop.current c.loop.invariant (omega arith) c.if-current-above.true)

pub returns : goal.returns
returns c = climbed_end c.args.types.now c.args.number c.args.above c.loop.counter c.loop.current c.loop.invariant (omega arith) (omega arith)

use Rattle.std.proofs.Common.{arith}
use Rattle.task_kit.proofs.AtomLemmas.{no_lack}
use Rattle.task_kit.proofs.judging.first_lack.Goals as goal

pub returns : goal.returns
returns c = no_lack c.args.wanted.now.members c.args.state.now.members (λ k there. c.loop-atom.invariant k (omega (arith, c.width-atom-end.ensures.below k there)) there)

use Rattle.std.proofs.Common.{arith}
use Rattle.mre_base.proofs.ListBefore.{same_listed}
use Rattle.mre_base.proofs.words.is_list_before.Goals as goal

pub returns : goal.returns
returns c = same_listed c.args.one.now c.args.two.now c.requires (λ j l. c.loop-i.invariant j (omega arith))

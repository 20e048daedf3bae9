use Rattle.mre_base.proofs.WordBits.{has_bit-take_out}
use Rattle.mre_base.proofs.words.take_out.Goals as goal

pub returns : goal.returns
returns c = λ k. has_bit-take_out c.args.words.now c.args.i k c.requires

use Rattle.mre_base.proofs.WordBits.{has_bit-put}
use Rattle.mre_base.proofs.words.put.Goals as goal

pub returns : goal.returns
returns c = λ k. has_bit-put c.args.words.now c.args.i k c.requires

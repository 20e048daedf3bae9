use Rattle.std.proofs.Common.{◌∙◌, ap}
use Rattle.std.specs.FinSet as set
use Rattle.mre_base.specs.Sets.{BitSet}
use Rattle.mre_base.proofs.BitWords.{seen-take_out}
use Rattle.mre_base.proofs.bits.Bits.take_out.Goals as goal

pub returns : goal.returns
returns c =
    let without_i : BitSet → BitSet = λ bits. record { width = bits.width; members = set.remove bits.members c.args.i } in
    seen-take_out c.self.inside.width c.self.inside.words.items c.take_out_of.new.words.items c.args.i c.take_out_of.ensures.bits ∙ ap without_i c.self.view_is

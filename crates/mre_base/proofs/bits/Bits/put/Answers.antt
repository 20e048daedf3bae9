use Rattle.std.proofs.Common.{◌≡◌, ◌∙◌, ap, arith}
use Rattle.std.specs.FinSet as set
use Rattle.mre_base.specs.Sets.{BitSet}
use Rattle.mre_base.proofs.BitWords.{seen-put}
use Rattle.mre_base.proofs.bits.Bits.put.Goals as goal

pub returns : goal.returns
returns c =
    let width : c.self.inside.width ≡ c.args.self.now.width = ap (λ bits. bits.width) c.self.view_is in
    let with_i : BitSet → BitSet = λ bits. record { width = bits.width; members = set.insert bits.members c.args.i } in
    seen-put c.self.inside.width c.self.inside.words.items c.put_in.new.words.items c.args.i (omega arith) c.put_in.ensures.bits ∙ ap with_i c.self.view_is

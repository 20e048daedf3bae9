use Rattle.std.proofs.Common.{◌≡◌, ◌∙◌, sym, ap, subst, arith}
use Rattle.std.specs.FinSet as set
use Rattle.mre_base.specs.Words.{has_bit}
use Rattle.mre_base.proofs.SetsBelow.{member}
use Rattle.mre_base.proofs.bits.Bits.contains.Goals as goal

pub returns : goal.returns
returns c =
    let width : c.self.inside.width ≡ c.args.self.now.width = ap (λ bits. bits.width) c.self.view_is in
    let answer = subst (λ words. c.has.result ≡ has_bit words c.args.i) c.as_slice.ensures c.has.ensures in
    answer ∙ sym (member (has_bit c.self.inside.words.items) c.self.inside.width c.args.i (omega arith)) ∙ ap (λ bits. set.contains bits.members c.args.i) c.self.view_is

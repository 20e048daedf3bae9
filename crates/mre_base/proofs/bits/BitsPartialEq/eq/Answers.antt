use Rattle.std.proofs.Common.{◌∙◌, ap, sym}
use Rattle.mre_base.specs.Sets.{is_same_bit_set}
use Rattle.mre_base.specs.SameSets.{same_from_is_same_bit_set, is_same_bit_set-itself}
use Rattle.mre_base.proofs.Tests.{same_test}
use Rattle.mre_base.proofs.bits.BitsPartialEq.eq.Goals as goal

pub returns-then-self-other : goal.returns-then-self-other
returns-then-self-other c =
    same_test c.same.result (is_same_bit_set c.args.self.now c.args.other.now)
    (λ e. ap (is_same_bit_set c.args.self.now) (sym (c.same.ensures.0 e)) ∙ is_same_bit_set-itself c.args.self.now)
    (λ e. c.same.ensures.1 (same_from_is_same_bit_set c.args.self.now c.args.other.now e))

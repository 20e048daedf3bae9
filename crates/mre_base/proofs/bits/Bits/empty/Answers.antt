use Rattle.std.proofs.Common.{◌≡◌, get_or, replicate, ap, ◌∙◌}
use Rattle.mre_base.proofs.BitWords.{bits_below-none, zeros}
use Rattle.mre_base.proofs.bits.Bits.empty.Goals as goal

pub returns-clause-ok : goal.returns-clause-ok
returns-clause-ok c =
    let all_zero : c.in_ok-words.words.items ≡ replicate c.div_ceil.result 0 = c.in_ok-words.ensures.items_if_clones_equal (λ y h. h) in
    bits_below-none c.args.width c.in_ok-words.words.items (λ i. ap (λ words. get_or words i 0) all_zero ∙ zeros c.div_ceil.result i)

use Rattle.std.proofs.Common.{refl, arith}
use Rattle.std.proofs.lemmas.Bool.{false≢true}
use Rattle.mre_base.proofs.WordLists.{within_bits, bits_within}
use Rattle.mre_base.proofs.words.is_subset.Goals as goal

pub returns-then-word-two-ne0 : goal.returns-then-word-two-ne0
returns-then-word-two-ne0 c = (
  λ impossible. absurd (false≢true impossible),
  λ within. absurd (c.if-word-two-ne0.true (bits_within c.args.one.now c.args.two.now (λ i. omega (arith, c.type_inv.one i)) (λ i. omega (arith, c.type_inv.two i)) within c.loop-i.i)),
)

pub returns : goal.returns
returns c = (
  λ _. within_bits c.args.one.now c.args.two.now c.requires (λ i. omega (arith, c.type_inv.two i)) (λ i l. c.loop-i.invariant i (omega arith)),
  λ _. refl,
)

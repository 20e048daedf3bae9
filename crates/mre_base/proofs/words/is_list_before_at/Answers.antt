use Rattle.std.proofs.Common.{arith, sym, ◌∙◌}
use Rattle.std.proofs.lemmas.Nat.Bits.{shr_and_one}
use Rattle.mre_base.proofs.ListBefore.{low, in_first, in_second, not_set}
use Rattle.mre_base.proofs.words.is_list_before_at.Goals as goal

pub overflow_shr-one : goal.overflow_shr-one
overflow_shr-one c = low c.args.one.now c.args.two.now c.args.i c.requires.long c.requires.within (omega (arith, c.type_inv.one c.args.i)) (omega (arith, c.type_inv.two c.args.i)) c.requires.below c.requires.differs

pub any_from-requires-else-one-i-eq1-clause-bit : goal.any_from-requires-else-one-i-eq1-clause-bit
any_from-requires-else-one-i-eq1-clause-bit c = low c.args.one.now c.args.two.now c.args.i c.requires.long c.requires.within (omega (arith, c.type_inv.one c.args.i)) (omega (arith, c.type_inv.two c.args.i)) c.requires.below c.requires.differs

pub returns-then-one-i-eq1 : goal.returns-then-one-i-eq1
returns-then-one-i-eq1 c =
    in_first c.args.one.now c.args.two.now c.args.i c.requires.long c.requires.within (omega (arith, c.type_inv.one c.args.i)) (omega (arith, c.type_inv.two c.args.i)) c.requires.below c.requires.differs
    c.any_from.result (sym (shr_and_one _ _) ∙ c.if-one-i-eq1.true) c.any_from.ensures

pub returns-else-one-i-eq1 : goal.returns-else-one-i-eq1
returns-else-one-i-eq1 c =
    in_second c.args.one.now c.args.two.now c.args.i c.requires.long c.requires.within (omega (arith, c.type_inv.one c.args.i)) (omega (arith, c.type_inv.two c.args.i)) c.requires.below c.requires.differs
    c.any_from-else-one-i-eq1.result (not_set _ _ c.if-one-i-eq1.false) c.any_from-else-one-i-eq1.ensures

use Rattle.std.proofs.Common.{◌<◌, length, sym, ◌∙◌, arith}
use Rattle.model_kit.specs.Types.{is_of_type}
use Rattle.model_kit.proofs.FitLemmas.{below_all, below_fails}
use Rattle.model_kit.proofs.checking.do_end.Goals as goal

pub returns-then-not-is_of_type : goal.returns-then-not-is_of_type
returns-then-not-is_of_type c =
    let listed : c.loop-number.number < length c.args.types.now = omega arith in
    below_fails (λ type. is_of_type c.args.types.now type 0) (length c.args.types.now) c.loop-number.number listed (sym c.is_of_type.ensures ∙ c.if-not-is_of_type.true)

pub returns : goal.returns
returns c = below_all (λ type. is_of_type c.args.types.now type 0) (length c.args.types.now) c.loop-number.number (omega arith) c.loop-number.invariant

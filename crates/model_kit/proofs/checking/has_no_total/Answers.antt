use Rattle.std.proofs.Common.{◌∙◌, sym}
use Rattle.model_kit.specs.Words.{is_no_total}
use Rattle.model_kit.proofs.FitLemmas.{all_fails, all_more}
use Rattle.model_kit.proofs.checking.has_no_total.Goals as goal

pub returns-then-not-is_another_word : goal.returns-then-not-is_another_word
returns-then-not-is_another_word c = all_fails is_no_total c.args.functions.now _ _ c.item.ensures _ c.loop-place.invariant (sym c.is_another_word.ensures ∙ c.if-not-is_another_word.true)

pub loop-place-preserved : goal.loop-place-preserved
loop-place-preserved c = all_more is_no_total c.args.functions.now _ _ c.item.ensures _ c.loop-place.invariant (sym c.is_another_word.ensures ∙ c.if-not-is_another_word.false)

use Rattle.std.proofs.Common.{sym, ◌∙◌}
use Rattle.model_kit.specs.Same.{same_term}
use Rattle.model_kit.proofs.FitLemmas.{fit_lengths, fit_more, fit_fails}
use Rattle.model_kit.proofs.checking.are_same_terms.Goals as goal

pub returns-then-len : goal.returns-then-len
returns-then-len c = fit_lengths same_term c.args.one.now c.args.other.now (λ same. c.if-len.true (c.len.ensures ∙ same ∙ sym c.len-2.ensures))

pub returns-then-not-is_same_term : goal.returns-then-not-is_same_term
returns-then-not-is_same_term c = fit_fails same_term c.args.one.now c.args.other.now _ _ _ c.item.ensures c.item-in-loop-place.ensures c.loop-place.invariant (sym c.is_same_term.ensures ∙ c.if-not-is_same_term.true)

pub loop-place-preserved : goal.loop-place-preserved
loop-place-preserved c = fit_more same_term c.args.one.now c.args.other.now _ _ _ c.item.ensures c.item-in-loop-place.ensures c.loop-place.invariant (sym c.is_same_term.ensures ∙ c.if-not-is_same_term.false)

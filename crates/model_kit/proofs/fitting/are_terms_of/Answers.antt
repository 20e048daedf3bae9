use Rattle.std.proofs.Common.{sym, ◌∙◌}
use Rattle.model_kit.specs.Vocabulary.{is_term_of}
use Rattle.model_kit.proofs.FitLemmas.{fit_lengths, fit_more, fit_fails}
use Rattle.model_kit.proofs.fitting.are_terms_of.Goals as goal

pub returns-then-len : goal.returns-then-len
returns-then-len c = fit_lengths (is_term_of c.args.words.now c.args.params.now) c.args.terms.now c.args.types.now (λ same. c.if-len.true (c.len.ensures ∙ same ∙ sym c.len-2.ensures))

pub returns-then-not-is_term_of : goal.returns-then-not-is_term_of
returns-then-not-is_term_of c = fit_fails (is_term_of c.args.words.now c.args.params.now) c.args.terms.now c.args.types.now _ _ _ c.item.ensures c.item-in-loop-place.ensures c.loop-place.invariant (sym c.is_term_of.ensures ∙ c.if-not-is_term_of.true)

pub loop-place-preserved : goal.loop-place-preserved
loop-place-preserved c = fit_more (is_term_of c.args.words.now c.args.params.now) c.args.terms.now c.args.types.now _ _ _ c.item.ensures c.item-in-loop-place.ensures c.loop-place.invariant (sym c.is_term_of.ensures ∙ c.if-not-is_term_of.false)

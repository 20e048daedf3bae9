use Rattle.std.proofs.Common.{sym, ◌∙◌}
use Rattle.model_kit.specs.Features.{is_schema}
use Rattle.model_kit.proofs.FitLemmas.{fit_lengths, fit_more, fit_fails}
use Rattle.model_kit.proofs.checking.are_schemas_of.Goals as goal

pub returns-then-len : goal.returns-then-len
returns-then-len c = fit_lengths (is_schema c.args.words.now) c.args.schemas.now c.args.words.now.actions (λ same. c.if-len.true (c.len.ensures ∙ same ∙ sym c.len-2.ensures))

pub returns-then-not-is_schema_of : goal.returns-then-not-is_schema_of
returns-then-not-is_schema_of c = fit_fails (is_schema c.args.words.now) c.args.schemas.now c.args.words.now.actions _ _ _ c.item.ensures c.item-in-loop-place.ensures c.loop-place.invariant (sym c.is_schema_of.ensures ∙ c.if-not-is_schema_of.true)

pub loop-place-preserved : goal.loop-place-preserved
loop-place-preserved c = fit_more (is_schema c.args.words.now) c.args.schemas.now c.args.words.now.actions _ _ _ c.item.ensures c.item-in-loop-place.ensures c.loop-place.invariant (sym c.is_schema_of.ensures ∙ c.if-not-is_schema_of.false)

use Rattle.std.proofs.Common.{ap, ◌∙◌}
use Rattle.model_kit.specs.Sentences.{of_action}
use Rattle.explain_text.proofs.SentenceLemmas.{made_is, need_is}
use Rattle.explain_text.proofs.sentences.of_need.Goals as goal

pub returns : goal.returns
returns c = record {
  ok = made_is _ _ _ c.said_of_action.ensures.ok
      (ap (of_action c.args.words.now c.args.action)
      (c.as_str-2.ensures.value ∙ c.in_ok-said.ensures.ok ∙ need_is c.args.planner_has _ _ _ (c.as_str.ensures ∙ c.in_ok-form.ensures.ok) c.either-needs.ensures));
}

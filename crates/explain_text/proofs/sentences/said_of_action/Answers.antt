use Rattle.std.proofs.Common.{◌∙◌}
use Rattle.explain_text.proofs.SentenceLemmas.{made_is, action_is}
use Rattle.explain_text.proofs.sentences.said_of_action.Goals as goal

pub returns : goal.returns
returns c = record {
  ok = made_is _ _ _ c.of.ensures.ok
      (c.as_str-2.ensures.value ∙ c.in_ok-text.ensures.ok ∙ action_is c.args.words.now.actions c.args.action _ _ _ c.item.ensures c.as_str.ensures);
}

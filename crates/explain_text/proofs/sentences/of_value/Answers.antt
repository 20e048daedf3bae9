use Rattle.std.proofs.Common.{◌∙◌}
use Rattle.explain_text.proofs.SentenceLemmas.{made_is, value_is}
use Rattle.explain_text.proofs.sentences.of_value.Goals as goal

pub returns : goal.returns
returns c = record {
  ok = made_is _ _ _ c.of.ensures.ok
      (c.as_str-4.ensures.value ∙ c.in_ok-text.ensures.ok
      ∙ value_is _ _ _ _ _ _ (c.as_str.ensures ∙ c.in_ok-term.ensures.ok)
      (c.as_str-2.ensures.value ∙ c.in_ok-planner_value.ensures.ok c.args.words.now)
      (c.as_str-3.ensures.value ∙ c.in_ok-user_value.ensures.ok c.args.words.now));
}

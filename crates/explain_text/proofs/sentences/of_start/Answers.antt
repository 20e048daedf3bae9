use Rattle.std.proofs.Common.{◌∙◌}
use Rattle.explain_text.proofs.SentenceLemmas.{made_is, start_is}
use Rattle.explain_text.proofs.sentences.of_start.Goals as goal

pub returns : goal.returns
returns c = record {
  ok = made_is _ _ _ c.of.ensures.ok
      (c.as_str-2.ensures.value ∙ c.in_ok-text.ensures.ok ∙ start_is c.args.planner_has _ _ _ (c.as_str.ensures ∙ c.in_ok-form.ensures.ok) c.either-truth.ensures);
}

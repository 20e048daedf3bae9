use Rattle.std.proofs.Common.{ap, ◌∙◌}
use Rattle.std.specs.Prelude.{codes}
use Rattle.model_kit.specs.Sentences.{of_action}
use Rattle.explain_text.proofs.SentenceLemmas.{made_is, makes_is}
use Rattle.explain_text.proofs.sentences.of_add.Goals as goal

pub returns : goal.returns
returns c = record {
  ok = made_is _ _ _ c.said_of_action.ensures.ok
      (ap (of_action c.args.words.now c.args.action)
      (c.as_str-2.ensures.value ∙ c.in_ok-said.ensures.ok
      ∙ makes_is c.args.planner_has _ _ _ (codes "true") (c.as_str.ensures ∙ c.in_ok-form.ensures.ok) c.either-makes.ensures));
}

use Rattle.std.proofs.Common.{ap, ◌∙◌, ◌++◌}
use Rattle.std.specs.Prelude.{codes}
use Rattle.model_kit.specs.Sentences.{of_action}
use Rattle.explain_text.proofs.SentenceLemmas.{made_is, not_is}
use Rattle.explain_text.proofs.sentences.of_cost.Goals as goal

pub returns : goal.returns
returns c = record {
  ok = made_is _ _ _ c.said_of_action.ensures.ok
      (ap (of_action c.args.words.now c.args.action)
      (c.as_str-3.ensures.value ∙ c.in_ok-said.ensures.ok
      ∙ ap (λ both. codes "costs " ++ both)
      (not_is _ _ _ _ (c.as_str.ensures ∙ c.in_ok-planner_cost.ensures.ok) (c.as_str-2.ensures ∙ c.in_ok-user_cost.ensures.ok))));
}

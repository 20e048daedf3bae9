use Rattle.std.proofs.Common.{ap}
use Rattle.model_kit.specs.Sentences.{of_action}
use Rattle.explain_text.proofs.SentenceLemmas.{made_is, knowledge_is}
use Rattle.explain_text.proofs.sentences.of_knowledge.Goals as goal

pub returns : goal.returns
returns c = record {
  ok = made_is _ _ _ c.said_of_action.ensures.ok
      (ap (of_action c.args.words.now c.args.action) (knowledge_is c.args.planner_has _ c.either-exists.ensures));
}

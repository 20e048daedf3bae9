use Rattle.std.proofs.Common.{◌∙◌, sym, subst, length, ◌<◌}
use Rattle.std.proofs.lemmas.Bool.{true≢false}
use Rattle.std.proofs.lemmas.Result.{on_ok_weaker}
use Rattle.model_kit.proofs.ListLemmas.{beq-decides}
use Rattle.feature_diff.proofs.ActionLemmas.{knowledge_agreed, knowledge_told}
use Rattle.feature_diff.proofs.actions.tell_knowledge.Goals as goal

pub knows-requires : goal.knows-requires
knows-requires c = subst (λ w. c.args.action < length w.actions) (sym c.requires.joint) c.requires.listed

pub returns-then-planner_has-knows : goal.returns-then-planner_has-knows
returns-then-planner_has-knows c = record {
  ok =
      knowledge_agreed c.args.planner.now c.args.user.now c.requires.joint c.args.action c.requires.listed c.args.gathered.now c.knows-planner_has.result c.knows.result c.knows-planner_has.ensures c.knows.ensures
      ((beq-decides c.knows-planner_has.result c.knows.result).0 c.if-planner_has-knows.true);
}

pub returns : goal.returns
returns c = record {
  ok =
      on_ok_weaker c.add.result
      (knowledge_told c.args.planner.now c.args.user.now c.requires.joint c.args.action c.requires.listed c.args.gathered.now c.knows-planner_has.result c.knows.result c.knows-planner_has.ensures c.knows.ensures
      (λ e. true≢false (sym ((beq-decides c.knows-planner_has.result c.knows.result).1 e) ∙ c.if-planner_has-knows.false)) c.add.new.self)
      c.add.ensures.ok;
}

use Rattle.std.proofs.Common.{refl, sym, ◌∙◌}
use Rattle.std.proofs.lemmas.Result.{on_ok_weaker}
use Rattle.feature_diff.proofs.PartLemmas.{schema_numbered}
use Rattle.feature_diff.proofs.ActionLemmas.{cost_agreed, cost_told}
use Rattle.feature_diff.proofs.actions.tell_cost.Goals as goal

pub item-one-requires : goal.item-one-requires
item-one-requires c = schema_numbered c.args.planner.now.words c.args.planner.now refl c.args.action c.requires.listed

pub item-other-requires : goal.item-other-requires
item-other-requires c = schema_numbered c.args.planner.now.words c.args.user.now c.requires.joint c.args.action c.requires.listed

pub returns-then-are_same_costs : goal.returns-then-are_same_costs
returns-then-are_same_costs c = record {
  ok =
      cost_agreed c.args.planner.now c.args.user.now c.requires.joint c.args.action c.requires.listed c.args.gathered.now c.item-one.result.now c.item-other.result.now c.item-one.ensures c.item-other.ensures
      (sym c.are_same_costs.ensures ∙ c.if-are_same_costs.true);
}

pub returns : goal.returns
returns c = record {
  ok =
      on_ok_weaker c.add.result
      (cost_told c.args.planner.now c.args.user.now c.requires.joint c.args.action c.requires.listed c.args.gathered.now c.item-one.result.now c.item-other.result.now c.item-one.ensures c.item-other.ensures
      (sym c.are_same_costs.ensures ∙ c.if-are_same_costs.false) c.in_ok-planner_cost.planner_cost c.in_ok-user_cost.user_cost c.in_ok-planner_cost.ensures.ok c.in_ok-user_cost.ensures.ok c.add.new.self)
      c.add.ensures.ok;
}

use Rattle.pair_rules.proofs.RuleLemmas.{rules_more}
use Rattle.pair_rules.proofs.ruling.all_rules.Goals as goal

pub loop-action-preserved : goal.loop-action-preserved
loop-action-preserved c =
    rules_more c.args.pair.now.planner c.args.pair.now.user c.args.differences.now c.loop-action.action c.loop-action.rules c.push.new.self c.in_ok-rule_of.field-0 c.loop-action.invariant c.in_ok-rule_of.ensures c.in_ok-push.ensures.ok

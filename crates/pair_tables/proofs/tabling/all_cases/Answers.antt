use Rattle.pair_rules.specs.Ruled.{models_of}
use Rattle.pair_tables.specs.Numbers.{number_by}
use Rattle.pair_tables.proofs.TableLemmas.{actions_more}
use Rattle.pair_tables.proofs.tabling.all_cases.Goals as goal

pub loop-place-preserved : goal.loop-place-preserved
loop-place-preserved c =
    actions_more (models_of c.args.pair.now.planner c.args.pair.now.user c.args.differences.now) (number_by c.args.numbers.now) c.args.actions.now c.loop-place.place c.item-action.result.now c.item-action.ensures c.loop-place.made
    c.push.new.self c.in_ok-action_cases.field-0 c.loop-place.invariant c.in_ok-action_cases.ensures c.in_ok-push.ensures.ok

use Rattle.std.proofs.Common.{◌+◌, ◌*◌, length, arith, refl}
use Rattle.feature_diff.proofs.JoinLemmas.{gathered_none, gathered_next}
use Rattle.feature_diff.proofs.gathering.gather.Goals as goal

pub tell_actions-requires-clause-facts : goal.tell_actions-requires-clause-facts
tell_actions-requires-clause-facts c =
    gathered_next c.args.planner.now c.args.user.now 1 2 refl c.tell_facts.new.gathered c.tell_facts-2.new.gathered c.in_ok-tell_facts-2.ensures.ok
    (gathered_next c.args.planner.now c.args.user.now 0 1 refl c.none-gathered.result c.tell_facts.new.gathered c.in_ok-tell_facts.ensures.ok
    (gathered_none c.args.planner.now c.args.user.now c.none-gathered.result c.none-gathered.ensures.found c.none-gathered.ensures.kept))

pub returns : goal.returns
returns c = record {
  ok =
      gathered_next c.args.planner.now c.args.user.now (2 + 5 * length c.args.planner.now.words.actions) (3 + 5 * length c.args.planner.now.words.actions) (omega arith) c.tell_actions.new.gathered c.tell_values.new.gathered
      c.in_ok-tell_values.ensures.ok c.in_ok-tell_actions.ensures.ok;
}

use Rattle.std.proofs.Common.{arith}
use Rattle.task_kit.specs.Reached.{reached}
use Rattle.task_kit.proofs.SearchLemmas.{back_none, back_more, back_all}
use Rattle.task_kit.proofs.searching.path_back.Goals as goal

pub loop-at-init : goal.loop-at-init
loop-at-init c = record { within = c.requires.place; back = back_none (reached c.args.table.now).nodes c.args.place c.new-back.result.items c.new-back.ensures.items }

pub loop-at-preserved : goal.loop-at-preserved
loop-at-preserved c =
    let earlier = c.requires.earlier c.loop-at.at c.node-node.result c.node-node.ensures c.loop-at-test.true in
    record {
      within = omega (arith, earlier, c.loop-at.invariant.within);
      back = back_more (reached c.args.table.now).nodes c.args.place c.loop-at.at c.loop-at.back.items _ c.node-node.result c.loop-at-test.true c.node-node.ensures c.in_ok-push.ensures.items c.loop-at.invariant.back;
    }

pub returns : goal.returns
returns c = back_all (reached c.args.table.now).nodes c.args.place c.loop-at.at c.loop-at.back.items c.loop-at-test.false c.loop-at.invariant.back

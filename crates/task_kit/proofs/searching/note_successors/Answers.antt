use Rattle.std.proofs.Common.{◌∙◌, inl, inr, subst, arith, below_more}
use Rattle.std.proofs.lemmas.Bool.{cases_lt}
use Rattle.task_kit.specs.Reached.{reached}
use Rattle.task_kit.specs.Searching.{IsReached}
use Rattle.task_kit.proofs.SearchLemmas.{grows_trans, reached_kept, unlisted}
use Rattle.task_kit.proofs.searching.note_successors.Goals as goal

pub loop-action-preserved : goal.loop-action-preserved
loop-action-preserved g c =
    let task = g.T.TaskView.seen c.args.task.now in
    let from = c.args.scratch.now.from.members in
    let bound = c.args.expansion.now.bound in
    let cost = c.args.expansion.now.node.cost in
    record {
      trail = c.in_ok-note_successor.ensures.trail;
      grows = grows_trans (reached c.args.table.now) (reached c.loop-action.table) (reached c.note_successor.new.table) c.loop-action.invariant.grows c.in_ok-note_successor.ensures.grows;
      reached =
          below_more (λ a. IsReached task bound (reached c.note_successor.new.table) from cost a) c.loop-action.action
          (λ a lt. reached_kept task bound (reached c.loop-action.table) (reached c.note_successor.new.table) from cost a c.in_ok-note_successor.ensures.grows (c.loop-action.invariant.reached a lt))
          (subst (λ bits. IsReached task bound (reached c.note_successor.new.table) bits.members cost c.loop-action.action) c.loop-action.invariant.from c.in_ok-note_successor.ensures.reached);
      from = c.in_ok-note_successor.ensures.from ∙ c.loop-action.invariant.from;
      into = c.in_ok-note_successor.ensures.into ∙ c.loop-action.invariant.into;
    }

pub returns-clause-reached : goal.returns-clause-reached
returns-clause-reached g c action =
    elim (cases_lt action c.loop-action.action) [
      | inl lt ↦ c.loop-action.invariant.reached action lt
      | inr past ↦
          unlisted (g.T.TaskView.seen c.args.task.now) c.args.expansion.now.bound (reached c.loop-action.table) c.args.scratch.now.from.members c.args.expansion.now.node.cost action
          (omega (arith, past, c.loop-action-test.false, c.actions-action-end.ensures))
    ]

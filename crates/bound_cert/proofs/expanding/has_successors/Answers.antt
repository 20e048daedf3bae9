use Rattle.std.proofs.Common.{◌∙◌, arith, inl, inr, below_more}
use Rattle.std.proofs.lemmas.Bool.{cases_lt}
use Rattle.task_kit.proofs.CutWeights.{never_applies}
use Rattle.bound_cert.proofs.expanding.has_successors.Goals as goal

pub loop-action-preserved : goal.loop-action-preserved
loop-action-preserved g c =
    record {
      into = c.has_successor.ensures.into_width ∙ c.loop-action.invariant.into;
      kept = below_more _ _ c.loop-action.invariant.kept (c.has_successor.ensures.yes c.if-not-has_successor.false);
    }

pub returns-clause-yes : goal.returns-clause-yes
returns-clause-yes g c e action does =
    elim (cases_lt action c.loop-action.action) [
      | inl lt ↦ c.loop-action.invariant.kept action lt does
      | inr past ↦
          absurd (never_applies (g.T.TaskView.seen c.args.task.now) action c.args.from.now.state.members
          (omega (arith, past, c.loop-action-test.false, c.actions-action-end.ensures)) does)
    ]

use Rattle.std.proofs.Common.{◌+◌, ◌^◌, ◌<◌, refl, sym, ap, ◌∙◌, subst}
use Rattle.std.specs.FinSet as set
use Rattle.task_kit.specs.declared.judging.Judgement.TheVariants as judgements
use Rattle.task_kit.specs.Tasks.{IsLeastMissing}
use Rattle.task_kit.proofs.JudgeLemmas.{says_rightly, judged_at, judged_goal, judged_valid, walked_more}
use Rattle.task_kit.proofs.judging.judge.Goals as goal

pub returns-in-Some-clause-judged : goal.returns-in-Some-clause-judged
returns-in-Some-clause-judged g c =
    judged_at (g.T.TaskView.seen c.args.task.now) c.args.plan.now c.loop-place.place c.loop-place.one c.loop-place.cost _ c.in-Some.fault c.loop-place-test.true refl c.loop-place.invariant.walked c.in-Some.ensures

pub returns-in-Some-clause-valid : goal.returns-in-Some-clause-valid
returns-in-Some-clause-valid g c =
    says_rightly (g.T.TaskView.seen c.args.task.now) c.args.plan.now c.in-Some.fault
    (judged_at (g.T.TaskView.seen c.args.task.now) c.args.plan.now c.loop-place.place c.loop-place.one c.loop-place.cost _ c.in-Some.fault c.loop-place-test.true refl c.loop-place.invariant.walked c.in-Some.ensures)

pub loop-place-preserved : goal.loop-place-preserved
loop-place-preserved g c =
    record {
      walked =
          walked_more (g.T.TaskView.seen c.args.task.now) c.args.plan.now c.loop-place.place c.loop-place.one _ c.loop-place.cost _ c.loop-place-test.true c.in_default.ensures
          (c.copy_from-in-loop-place.ensures ∙ c.next_into.ensures) (ap (λ n. c.loop-place.cost + n) c.price_of-cost.ensures.price) (subst (λ n. n < 2 ^ 32) c.price_of-cost.ensures.price c.price_of-cost.ensures.small) c.loop-place.invariant.walked;
      two = ap (λ b. b.width) c.next_into.ensures ∙ sym c.requires.two;
    }

pub returns-in-None-clause-judged : goal.returns-in-None-clause-judged
returns-in-None-clause-judged g c =
    judged_valid (g.T.TaskView.seen c.args.task.now) c.args.plan.now c.loop-place.place c.loop-place.one c.loop-place.cost c.loop-place-test.false c.loop-place.invariant.walked
    (sym (ap (λ b. set.is_subset b.members c.loop-place.one.members) c.goal.ensures) ∙ c.in-None.ensures)

pub returns-in-None-clause-valid : goal.returns-in-None-clause-valid
returns-in-None-clause-valid g c =
    says_rightly (g.T.TaskView.seen c.args.task.now) c.args.plan.now (judgements.Valid c.loop-place.cost)
    (judged_valid (g.T.TaskView.seen c.args.task.now) c.args.plan.now c.loop-place.place c.loop-place.one c.loop-place.cost c.loop-place-test.false c.loop-place.invariant.walked
    (sym (ap (λ b. set.is_subset b.members c.loop-place.one.members) c.goal.ensures) ∙ c.in-None.ensures))

pub returns-in-Some-first_lack-clause-judged : goal.returns-in-Some-first_lack-clause-judged
returns-in-Some-first_lack-clause-judged g c =
    judged_goal (g.T.TaskView.seen c.args.task.now) c.args.plan.now c.loop-place.place c.loop-place.one c.loop-place.cost c.in-Some-first_lack.atom c.loop-place-test.false c.loop-place.invariant.walked
    (subst (λ b. IsLeastMissing b.members c.loop-place.one.members c.in-Some-first_lack.atom) c.goal.ensures c.in-Some-first_lack.ensures)

pub returns-in-Some-first_lack-clause-valid : goal.returns-in-Some-first_lack-clause-valid
returns-in-Some-first_lack-clause-valid g c =
    says_rightly (g.T.TaskView.seen c.args.task.now) c.args.plan.now (judgements.GoalMissing c.in-Some-first_lack.atom)
    (judged_goal (g.T.TaskView.seen c.args.task.now) c.args.plan.now c.loop-place.place c.loop-place.one c.loop-place.cost c.in-Some-first_lack.atom c.loop-place-test.false c.loop-place.invariant.walked
    (subst (λ b. IsLeastMissing b.members c.loop-place.one.members c.in-Some-first_lack.atom) c.goal.ensures c.in-Some-first_lack.ensures))

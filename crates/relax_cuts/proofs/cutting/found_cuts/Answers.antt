use Rattle.std.proofs.Common.{◌<◌, ◌≡◌, length, All, sym, ap, ◌∙◌, subst, arith}
use Rattle.std.specs.FinSet as set
use Rattle.task_kit.specs.Kept.{all_but}
use Rattle.relax_cuts.specs.Leaving.{IsWeight}
use Rattle.relax_cuts.proofs.FoundLemmas.{found_goal, found_none, found_some, cuts_more, leave_less, one_longer}
use Rattle.relax_cuts.proofs.cutting.found_cuts.Goals as goal

pub returns-then-is_subset : goal.returns-then-is_subset
returns-then-is_subset g c =
    let task = g.T.TaskView.seen c.args.task.now in
    let closure = c.in_ok-closure.closure.members in
    found_goal task c.args.state.now.members c.loop.cuts c.loop.left.items c.loop.invariant.cuts c.loop.invariant.leave closure c.in_ok-closure.ensures.spreads
    (sym (ap (λ b. set.is_subset b.members closure) c.goal.ensures) ∙ sym c.is_subset.ensures ∙ c.if-is_subset.true)

pub returns-in-None : goal.returns-in-None
returns-in-None g c =
    let task = g.T.TaskView.seen c.args.task.now in
    let chosen = c.in_ok-choice.ensures in
    let among = c.in_ok-choice.choice.among.members in
    let lacks = c.in_ok-lacks.lacks in
    found_none task c.args.state.now.members c.loop.cuts c.loop.left.items c.loop.invariant.cuts c.loop.invariant.leave among chosen.cut_set lacks
    (ap (λ n. all_but n lacks) (sym c.atoms.ensures.atoms) ∙ c.in_ok-lacks.ensures.all) c.in_ok-lacks.ensures.ascending (subst (λ n. All (λ atom. atom < n) lacks) c.atoms.ensures.atoms c.in_ok-lacks.ensures.below)
    c.push.new.self (subst (IsWeight task (length task.actions) c.loop.left.items among) c.in-None.is chosen.least) c.in_ok-push-in-None.ensures.ok

pub loop-preserved : goal.loop-preserved
loop-preserved g c =
    let task = g.T.TaskView.seen c.args.task.now in
    let state = c.args.state.now.members in
    let left = c.loop.left.items in
    let chosen = c.in_ok-choice.ensures in
    let among = c.in_ok-choice.choice.among.members in
    let lacks = c.in_ok-lacks.lacks in
    let weight = c.in-Some.weight in
    let e : all_but task.atoms lacks ≡ among = ap (λ n. all_but n lacks) (sym c.atoms.ensures.atoms) ∙ c.in_ok-lacks.ensures.all in
    let up = c.in_ok-lacks.ensures.ascending in
    let below = subst (λ n. All (λ atom. atom < n) lacks) c.atoms.ensures.atoms c.in_ok-lacks.ensures.below in
    let least = subst (IsWeight task (length task.actions) left among) c.in-Some.is chosen.least in
    let is = c.in_ok-push-in-Some.ensures.ok in
    record {
      cuts = cuts_more task state c.loop.cuts left c.loop.invariant.cuts c.loop.invariant.leave among chosen.cut_set lacks e up below weight least c.push-in-Some.new.self is c.atoms.ensures.task (chosen.above weight c.in-Some.is);
      leave = leave_less task state c.loop.cuts left c.loop.invariant.cuts c.loop.invariant.leave among chosen.cut_set lacks e up below weight least c.push-in-Some.new.self is c.charge.new.left.items c.charge.ensures.sized c.charge.ensures.each;
      count = omega (arith, c.loop.invariant.count, one_longer task state c.loop.cuts left c.loop.invariant.cuts c.loop.invariant.leave among chosen.cut_set lacks e up below weight least c.push-in-Some.new.self is);
    }

pub returns : goal.returns
returns g c =
    let task = g.T.TaskView.seen c.args.task.now in
    found_some task c.args.state.now.members c.loop.cuts c.loop.left.items c.loop.invariant.cuts c.loop.invariant.leave (omega (arith, c.loop.invariant.count, c.loop-test.false))

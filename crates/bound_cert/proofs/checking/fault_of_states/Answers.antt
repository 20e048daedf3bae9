use Rattle.std.proofs.Common.{length, take, All, ap, subst, arith}
use Rattle.std.proofs.lemmas.List.{length-append, take_all}
use Rattle.bound_cert.specs.Lines.{state_lines, lines, Keeps}
use Rattle.bound_cert.proofs.LineLemmas.{few_lines, lines_next, length-state_lines, states_keep, fault_in_states}
use Rattle.bound_cert.proofs.checking.fault_of_states.Goals as goal

pub fault_of_state-requires-clause-few : goal.fault_of_state-requires-clause-few
fault_of_state-requires-clause-few g c =
    let task = g.T.TaskView.seen c.args.task.now in
    omega (arith, few_lines task.atoms c.args.states.now c.loop-place.place c.item-state.result.now c.item-state.ensures, c.loop-place.invariant.line, c.requires.formed.few)

pub returns-in-Some-clause-broken : goal.returns-in-Some-clause-broken
returns-in-Some-clause-broken g c =
    let task = g.T.TaskView.seen c.args.task.now in
    fault_in_states task c.args.k c.args.states.now c.args.states.now c.loop-place.place c.item-state.result.now c.item-state.ensures c.loop-place.invariant.kept 2 c.loop-place.line _ c.loop-place.invariant.line c.in-Some.ensures.broken

pub height-line-requires : goal.height-line-requires
height-line-requires g c =
    let task = g.T.TaskView.seen c.args.task.now in
    omega (arith, few_lines task.atoms c.args.states.now c.loop-place.place c.item-state.result.now c.item-state.ensures, c.requires.formed.few)

pub overflow_add-line : goal.overflow_add-line
overflow_add-line g c =
    let task = g.T.TaskView.seen c.args.task.now in
    omega (arith, few_lines task.atoms c.args.states.now c.loop-place.place c.item-state.result.now c.item-state.ensures, c.loop-place.invariant.line, c.height-line.ensures, c.requires.formed.few)

pub loop-place-preserved : goal.loop-place-preserved
loop-place-preserved g c =
    let task = g.T.TaskView.seen c.args.task.now in
    let list = c.args.states.now in
    let place = c.loop-place.place in
    let s = c.item-state.result.now in
    record {
      scratch = c.fault_of_state.ensures.scratch;
      line = omega (arith, c.loop-place.invariant.line, c.height-line.ensures, ap length (lines_next task.atoms list place s c.item-state.ensures), length-append (lines task.atoms (take place list)) (state_lines task.atoms s), length-state_lines task.atoms s);
      kept = states_keep task c.args.k list list place s c.item-state.ensures c.loop-place.invariant.kept c.in_default.ensures.kept;
    }

pub returns-clause-kept : goal.returns-clause-kept
returns-clause-kept g c =
    let task = g.T.TaskView.seen c.args.task.now in
    subst (λ list. All (Keeps task c.args.k c.args.states.now) (lines task.atoms list)) (take_all c.loop-place.place c.args.states.now (omega (arith, c.loop-place-test.false, c.len-place-end.ensures))) c.loop-place.invariant.kept

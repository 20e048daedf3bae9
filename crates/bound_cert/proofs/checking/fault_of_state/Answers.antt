use Rattle.bound_cert.proofs.ListLemmas.{none_then, some_then}
use Rattle.bound_cert.proofs.LineLemmas.{fault_at_expanded, fault_at_pruned, pruned_keeps, fault_past_pruned}
use Rattle.bound_cert.proofs.checking.fault_of_state.Goals as goal

pub returns-in-Some-clause-broken : goal.returns-in-Some-clause-broken
returns-in-Some-clause-broken g c =
    fault_at_expanded (g.T.TaskView.seen c.args.task.now) c.args.k c.args.states.now c.args.state.now c.in-Expanded.is (record { line = c.args.line; rule = c.in-Some.rule }) c.in-Some.ensures.broken

pub returns-in-None-broken_by_pruned-clause-kept : goal.returns-in-None-broken_by_pruned-clause-kept
returns-in-None-broken_by_pruned-clause-kept g c =
    let task = g.T.TaskView.seen c.args.task.now in
    none_then c.fault_in_cuts.result (λ all.
    pruned_keeps task c.args.k c.args.states.now c.args.state.now _ c.in-Pruned.is (c.in-None-broken_by_pruned.ensures.kept task c.args.states.now) (all c.args.k c.args.states.now)) c.fault_in_cuts.ensures.kept

pub returns-in-None-broken_by_pruned-clause-broken : goal.returns-in-None-broken_by_pruned-clause-broken
returns-in-None-broken_by_pruned-clause-broken g c =
    let task = g.T.TaskView.seen c.args.task.now in
    some_then c.fault_in_cuts.result (λ fault f.
    fault_past_pruned task c.args.k c.args.states.now c.args.state.now _ c.in-Pruned.is (c.in-None-broken_by_pruned.ensures.kept task c.args.states.now) c.args.line fault (f c.args.k c.args.states.now)) c.fault_in_cuts.ensures.broken

pub returns-in-Some-broken_by_pruned-clause-broken : goal.returns-in-Some-broken_by_pruned-clause-broken
returns-in-Some-broken_by_pruned-clause-broken g c =
    let task = g.T.TaskView.seen c.args.task.now in
    fault_at_pruned task c.args.k c.args.states.now c.args.state.now _ c.in-Pruned.is (record { line = c.args.line; rule = c.in-Some-broken_by_pruned.rule }) (c.in-Some-broken_by_pruned.ensures.broken task c.args.states.now)

use Rattle.bound_cert.proofs.ListLemmas.{none_then, some_then}
use Rattle.bound_cert.proofs.LineLemmas.{fault_at_start, own_keeps, fault_past_own}
use Rattle.bound_cert.proofs.checking.first_fault.Goals as goal

pub returns-then-not-has_start-clause-broken : goal.returns-then-not-has_start-clause-broken
returns-then-not-has_start-clause-broken g c =
    let missing = c.has_start.ensures.no c.if-not-has_start.true in
    fault_at_start (g.T.TaskView.seen c.args.task.now) c.args.k c.args.states.now missing.0 missing.1

pub returns-clause-kept : goal.returns-clause-kept
returns-clause-kept g c =
    none_then c.fault_of_states.result (own_keeps (g.T.TaskView.seen c.args.task.now) c.args.k c.args.states.now (c.has_start.ensures.yes c.if-not-has_start.false)) c.fault_of_states.ensures.kept

pub returns-clause-broken : goal.returns-clause-broken
returns-clause-broken g c =
    some_then c.fault_of_states.result (λ fault f. fault_past_own (g.T.TaskView.seen c.args.task.now) c.args.k c.args.states.now fault (c.has_start.ensures.yes c.if-not-has_start.false) f) c.fault_of_states.ensures.broken

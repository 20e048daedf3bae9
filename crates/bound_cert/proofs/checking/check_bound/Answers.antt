use Rattle.std.proofs.Common.{rules}
use Rattle.bound_cert.specs.Lines.{proof_lines}
use Rattle.bound_cert.proofs.LineLemmas.{keeps_proof, proof_keeps, fault_breaks}
use Rattle.bound_cert.proofs.ProofLemmas.{bound_proof_law}
use Rattle.bound_cert.proofs.checking.check_bound.Goals as goal

pub returns-in-None-clause-ok : goal.returns-in-None-clause-ok
returns-in-None-clause-ok g c =
    (λ _. keeps_proof (g.T.TaskView.seen c.args.task.now) c.args.k c.args.proof.now.states c.requires.formed.cuts c.in-None.ensures.kept, λ _. search rules)

pub returns-in-None-clause-no_cheaper : goal.returns-in-None-clause-no_cheaper
returns-in-None-clause-no_cheaper g c _ =
    let task = g.T.TaskView.seen c.args.task.now in
    bound_proof_law task c.args.k c.args.proof.now.states (keeps_proof task c.args.k c.args.proof.now.states c.requires.formed.cuts c.in-None.ensures.kept)

pub returns-in-Some-clause-ok : goal.returns-in-Some-clause-ok
returns-in-Some-clause-ok g c =
    let task = g.T.TaskView.seen c.args.task.now in
    let states = c.args.proof.now.states in (
      λ ok. search rules,
      λ proof. absurd (fault_breaks task c.args.k states (proof_lines task.atoms states) 1 c.in-Some.fault c.in-Some.ensures.broken (proof_keeps task c.args.k states proof)),
    )

use Rattle.bound_cert.proofs.ProofLemmas.{bound_proof_law}
use Rattle.bound_cert.proofs.laws.law_bound_proofs.Goals as goal

pub returns : goal.returns
returns c = bound_proof_law

use Rattle.search_log.proofs.LeanLemmas.{lean_proof_on, lean_list_on}
use Rattle.search_log.proofs.laws.law_lean.Goals as goal

pub returns : goal.returns
returns c =
    record {
      proof = λ task cube k log more proof is. lean_proof_on task cube log more k proof is;
      list = λ task cube log more list is. lean_list_on task cube log more list is;
    }

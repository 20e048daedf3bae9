-- What is lean by a log is lean by a log that goes on.
use Rattle.std.proofs.Common.{ℕ, List, ◌++◌}
use Rattle.std.proofs.lemmas.List.Elements.{All-weaker}
use Rattle.mre_base.specs.declared.node.Node.{Node}
use Rattle.cube_kit.specs.Cubes.{CubeMeaning}
use Rattle.task_kit.specs.Tasks.{Numbers, TaskMeaning}
use Rattle.bound_cert.specs.declared.proof.BoundProof.{BoundProof}
use Rattle.bound_cert.specs.declared.proof.BoundState.{BoundState}
use Rattle.bound_cert.specs.declared.proof.How.{How}
use Rattle.bound_cert.specs.declared.proof.How.TheVariants as hows
use Rattle.search_log.specs.Lean.{IsLeanState, IsLeanProof, IsLeanList}
use Rattle.search_log.proofs.LogLemmas.{contains_on}

module _ (task : TaskMeaning) (c : CubeMeaning) (log more : List Node) where
  lean_state_on : (states : List BoundState) (state : Numbers) (how : How) → IsLeanState task c log states state how → IsLeanState task c (log ++ more) states state how
  lean_state_on states state hows.Expanded there = contains_on log more _ there
  lean_state_on states state (hows.Pruned cuts) lean = lean

  pub lean_proof_on : (k : ℕ) (proof : BoundProof) → IsLeanProof task c k log proof → IsLeanProof task c k (log ++ more) proof
  lean_proof_on k proof lean =
      record {
        bound = lean.bound;
        proves = lean.proves;
        formed = lean.formed;
        lean = All-weaker (λ s. IsLeanState task c log proof.states s.state.members s.how) (λ s. IsLeanState task c (log ++ more) proof.states s.state.members s.how)
            (λ s is. lean_state_on proof.states s.state.members s.how is) proof.states lean.lean;
      }

  pub lean_list_on : (list : List ℕ) → IsLeanList task c log list → IsLeanList task c (log ++ more) list
  lean_list_on list lean = record { expanded = λ i lt. contains_on log more _ (lean.expanded i lt); apart = lean.apart }

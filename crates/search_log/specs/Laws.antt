-- The laws of logs of searches: each state has one free closure, what is due and what is lean stays
-- so as the log goes on, and what a search adds to what it added before is what it adds in all.
use Rattle.std.specs.Prelude.{ℕ, ◌≡◌, ◌++◌, List}
use Rattle.mre_base.specs.declared.node.Node.{Node}
use Rattle.mre_base.specs.Log.{Log}
use Rattle.mre_base.specs.Sets.{BitSet}
use Rattle.cube_kit.specs.Cubes.{CubeMeaning}
use Rattle.task_kit.specs.Tasks.{Numbers, TaskMeaning, AllBelow, IsTask}
use Rattle.relax_cuts.specs.FreeClosure.{IsFreeClosure}
use Rattle.bound_cert.specs.declared.proof.BoundProof.{BoundProof}
use Rattle.search_log.specs.Due.{IsStateDue}
use Rattle.search_log.specs.Lean.{IsLeanProof, IsLeanList}
use Rattle.search_log.specs.Logging.{Logs}
use Rattle.search_log.specs.Searching.{IsOfSearch, Searches}

-- the set is the free closure of the state, and no other set is
pub record IsOneClosure (task : TaskMeaning) (state closure : Numbers) : Type 0 where
  pub is : IsFreeClosure task state closure
  pub only : (other : Numbers) → IsFreeClosure task state other → other ≡ closure

-- each state has exactly one free closure
abbrev pub ClosureLaw : Type 0
ClosureLaw =
    (task : TaskMeaning) (state : Numbers) → (closure : Numbers) × IsOneClosure task state closure

-- a node that a search may log stays due as the log goes on, and its atoms are atoms of the task
pub record DueLaw : Type 0 where
  pub goes_on : (task : TaskMeaning) (c : CubeMeaning) (k : ℕ) (log more : List Node) (node : Node)
      → IsOfSearch task c k log node → IsOfSearch task c k (log ++ more) node
  pub atoms : (task : TaskMeaning) (c : CubeMeaning) (k : ℕ) (log : List Node) (bits : BitSet)
      → IsTask task → IsStateDue task c k log bits → AllBelow task.atoms bits.members

-- what is lean by a log is lean by the log that goes on
pub record LeanLaw : Type 0 where
  pub proof : (task : TaskMeaning) (c : CubeMeaning) (k : ℕ) (log more : List Node)
      (proof : BoundProof) → IsLeanProof task c k log proof
      → IsLeanProof task c k (log ++ more) proof
  pub list : (task : TaskMeaning) (c : CubeMeaning) (log more : List Node) (list : List ℕ)
      → IsLeanList task c log list → IsLeanList task c (log ++ more) list

-- a search adds nothing, or one node that is due, or what it adds in two parts
pub record SearchLaw : Type 0 where
  pub none : (task : TaskMeaning) (c : CubeMeaning) (k : ℕ) (log : Log) → Searches task c k log log
  pub one : (task : TaskMeaning) (c : CubeMeaning) (k : ℕ) (old new : Log) (node : Node)
      → IsOfSearch task c k old.nodes node → Logs old node new → Searches task c k old new
  pub two : (task : TaskMeaning) (c : CubeMeaning) (k : ℕ) (old between new : Log)
      → Searches task c k old between → Searches task c k between new → Searches task c k old new

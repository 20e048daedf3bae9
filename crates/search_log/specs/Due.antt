-- When a search in a cube may log a state: the state can be reached cheaply enough, by a list of
-- which the state before the last step is logged.
use Rattle.std.specs.Prelude.{ℕ, ◌-◌, ◌≡◌, ◌<◌, List, [], ◌∷◌, ◌++◌, Contains, ◌⊎◌, if◌then◌else◌}
use Rattle.std.specs.Ordering.{nat_cmp}
use Rattle.std.specs.FinSet as set
use Rattle.mre_base.specs.declared.node.Node.{Node}
use Rattle.mre_base.specs.Sets.{BitSet}
use Rattle.cube_kit.specs.Cubes.{CubeMeaning}
use Rattle.task_kit.specs.Tasks.{Numbers, TaskMeaning, as_bits, cost_of}
use Rattle.task_kit.specs.Judged.{state_after, DoApply}
use Rattle.relax_cuts.specs.FreeClosure.{IsFreeClosure}
use Rattle.search_log.specs.Nodes.{probe_node, state_node}

-- what a list to a state has to cost less than, for a search below k: k where the free closure of
-- the state has all goal atoms, and else 1 less, since a step that costs something is still to come
abbrev pub bound_at : TaskMeaning → ℕ → Numbers → ℕ
bound_at task k closure = if set.is_subset task.goal closure then k else k - 1

-- a list of actions leads to the state, costs less than the bound, and has a known state before its
-- last step
pub record IsReachedBelow (task : TaskMeaning) (bound : ℕ) (known : Numbers → Type 0)
    (state : Numbers) : Type 0 where
  pub list : List ℕ
  pub action : ℕ
  pub applies : DoApply task task.start (list ++ action ∷ [])
  pub leads : state ≡ state_after task task.start (list ++ action ∷ [])
  pub cheap : cost_of task (list ++ action ∷ []) < bound
  pub before : known (state_after task task.start list)

-- the state is the first one, or reached by a list that is cheap enough
pub record IsDue (task : TaskMeaning) (k : ℕ) (known : Numbers → Type 0)
    (state : Numbers) : Type 0 where
  pub closure : set.FinSet nat_cmp
  pub is_closure : IsFreeClosure task state closure
  pub reached : ((state ≡ task.start) × (0 < bound_at task k closure))
      ⊎ IsReachedBelow task (bound_at task k closure) known state

-- the state of a search in the cube is logged
abbrev pub IsLogged : TaskMeaning → CubeMeaning → List Node → Numbers → Type 0
IsLogged task c log state = Contains log (state_node c (as_bits task state))

-- a search in the cube below k may log the state after these nodes
pub record IsStateDue (task : TaskMeaning) (c : CubeMeaning) (k : ℕ) (log : List Node)
    (bits : BitSet) : Type 0 where
  pub probed : Contains log (probe_node c)
  pub wide : bits ≡ as_bits task bits.members
  pub due : IsDue task k (IsLogged task c log) bits.members

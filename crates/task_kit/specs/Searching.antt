-- A plain search of a task below a cost: what holds of its nodes at each moment.
use Rattle.std.specs.Prelude.{ℕ, ◌+◌, ◌≡◌, ◌≢◌, ◌≤◌, ◌<◌, true, List, [], ◌∷◌, length, Option, Some}
use Rattle.std.specs.Prelude.{None, slice_get, ◌⊎◌}
use Rattle.std.specs.FinSet as set
use Rattle.task_kit.specs.declared.reached.SearchNode.{SearchNode}
use Rattle.task_kit.specs.Tasks.{Numbers, TaskMeaning, as_bits, price, applies, after}
use Rattle.task_kit.specs.Bounds.{IsExpanded, IsKnownWithin}
use Rattle.task_kit.specs.Queues.{IsOpen}
use Rattle.task_kit.specs.Reached.{Reached, StaysIn, IsIndexed}

-- the node is of this state
abbrev pub HasState : TaskMeaning → Reached → SearchNode → Numbers → Type 0
HasState task r node state = slice_get r.states node.state ≡ Some (as_bits task state)

-- the state has a node of this cost
abbrev pub IsKnown : TaskMeaning → Reached → Numbers → ℕ → Type 0
IsKnown task r state cost =
    (at : ℕ) × (node : SearchNode) × (slice_get r.nodes at ≡ Some node) × HasState task r node state
    × (node.cost ≡ cost)

-- the first node, without a step
abbrev pub IsRoot : TaskMeaning → Reached → ℕ → SearchNode → Type 0
IsRoot task r at node = (at ≡ 0) × HasState task r node task.start × (node.cost ≡ 0)

-- the node is an earlier node with one step more
pub record IsStep (task : TaskMeaning) (r : Reached) (at : ℕ) (node : SearchNode) : Type 0 where
  pub parent : SearchNode
  pub state : Numbers
  pub earlier : node.parent < at
  pub there : slice_get r.nodes node.parent ≡ Some parent
  pub from : HasState task r parent state
  pub does : applies task node.action state ≡ true
  pub to : HasState task r node (after task node.action state)
  pub costs : node.cost ≡ parent.cost + price task node.action

-- all nodes go back to the start, the start is reached, and the open list has places of nodes
pub record IsTrail (task : TaskMeaning) (r : Reached) : Type 0 where
  pub indexed : IsIndexed r
  pub each : (at : ℕ) (node : SearchNode) → slice_get r.nodes at ≡ Some node
      → IsRoot task r at node ⊎ IsStep task r at node
  pub start : IsKnown task r task.start 0
  pub open_within : (at : ℕ) → IsOpen r.open_nodes at → at < length r.nodes

-- nothing is lost, and each new node is open
pub record Grows (old new : Reached) : Type 0 where
  pub states : StaysIn old.states new.states
  pub nodes : StaysIn old.nodes new.nodes
  pub open_nodes : (at : ℕ) → IsOpen old.open_nodes at → IsOpen new.open_nodes at
  pub added : (at : ℕ) (node : SearchNode) → slice_get new.nodes at ≡ Some node
      → (slice_get old.nodes at ≡ Some node) ⊎ IsOpen new.open_nodes at
  pub longer : length old.nodes ≤ length new.nodes
  pub counted : length new.open_nodes + length old.nodes ≡ length old.open_nodes + length new.nodes

-- the successor by the action costs at least k in all, or is known with that sum or a smaller cost
abbrev pub IsReached : TaskMeaning → ℕ → Reached → Numbers → ℕ → ℕ → Type 0
IsReached task k r state cost action =
    applies task action state ≡ true → (k ≤ cost + price task action)
    ⊎ IsKnownWithin (IsKnown task r) (after task action state) (cost + price task action)

-- nothing remains to be done for the node if only lists below k count: it is too dear, its state is
-- expanded, or its state has a cheaper node
abbrev pub IsDone : TaskMeaning → ℕ → Reached → SearchNode → Type 0
IsDone task k r node =
    (state : Numbers) → HasState task r node state →
    (k ≤ node.cost) ⊎ IsExpanded task k (IsKnown task r) state node.cost
    ⊎ ((smaller : ℕ) × IsKnown task r state smaller × (smaller < node.cost))

-- each node is open, or nothing remains to be done for it
abbrev pub AreSettled : TaskMeaning → ℕ → Reached → Type 0
AreSettled task k r =
    (at : ℕ) (node : SearchNode) → slice_get r.nodes at ≡ Some node
    → IsOpen r.open_nodes at ⊎ IsDone task k r node

-- the same for all nodes but one
abbrev pub AreSettledBut : TaskMeaning → ℕ → Reached → ℕ → Type 0
AreSettledBut task k r but =
    (at : ℕ) (node : SearchNode) → slice_get r.nodes at ≡ Some node
    → (at ≡ but) ⊎ (IsOpen r.open_nodes at ⊎ IsDone task k r node)

-- no goal was reached below the first bound, or a node of a goal state costs the bound
abbrev pub IsFound : TaskMeaning → Reached → ℕ → ℕ → Option ℕ → Type 0
IsFound task r first bound None = bound ≡ first
IsFound task r first bound (Some at) =
    (bound < first) × (node : SearchNode) × (state : Numbers) × (slice_get r.nodes at ≡ Some node)
    × HasState task r node state × (set.is_subset task.goal state ≡ true) × (node.cost ≡ bound)

-- the actions on the path to a node, the last one first
abbrev pub IsPathBack : List SearchNode → ℕ → List ℕ → Type 0
IsPathBack nodes at [] = at ≡ 0
IsPathBack nodes at (action ∷ back) =
    (at ≢ 0) × (node : SearchNode) × (slice_get nodes at ≡ Some node) × (node.action ≡ action)
    × IsPathBack nodes node.parent back

-- What a plain search keeps: the states that it reached, their nodes, and the open list.
use Rattle.std.specs.Prelude.{ℕ, ◌≡◌, ◌≤◌, ◌<◌, List, [], ◌∷◌, ◌++◌, length, Some, slice_get, ◌⊎◌}
use Rattle.mre_base.specs.Sets.{BitSet}
use Rattle.task_kit.specs.declared.reached.SearchNode.{SearchNode}
use Rattle.task_kit.specs.declared.reached.Table.{Table}
use Rattle.task_kit.specs.Queues.{Puts}

-- the states, the latest node of each of them, all nodes, and the open list
pub record Reached : Type 0 where
  pub states : List BitSet
  pub last : List ℕ
  pub nodes : List SearchNode
  pub open_nodes : List (ℕ × ℕ)

-- the parts of a table
abbrev pub reached : Table → Reached
reached table =
    record {
      states = table.states.keys;
      last = table.last.items;
      nodes = table.nodes.items;
      open_nodes = table.open_nodes;
    }

-- each item of the old list is at the same place in the new list
abbrev pub StaysIn : {A : Type 0} → List A → List A → Type 0
StaysIn {A} old new =
    (place : ℕ) (x : A) → slice_get old place ≡ Some x → slice_get new place ≡ Some x

-- each state has a latest node, which is of that state, and each node is of a state
pub record IsIndexed (r : Reached) : Type 0 where
  pub sized : length r.last ≡ length r.states
  pub held : (place at : ℕ) → slice_get r.last place ≡ Some at
      → (node : SearchNode) × (slice_get r.nodes at ≡ Some node) × (node.state ≡ place)
  pub stated : (at : ℕ) (node : SearchNode) → slice_get r.nodes at ≡ Some node
      → node.state < length r.states

-- the state has a node that costs no more than this
abbrev pub HasNode : Reached → BitSet → ℕ → Type 0
HasNode r state cost =
    (at : ℕ) × (node : SearchNode) × (slice_get r.nodes at ≡ Some node)
    × (slice_get r.states node.state ≡ Some state) × (node.cost ≤ cost)

-- the node's state has a cheaper node
abbrev pub IsBeaten : Reached → SearchNode → Type 0
IsBeaten r node =
    (at : ℕ) × (other : SearchNode) × (slice_get r.nodes at ≡ Some other)
    × (other.state ≡ node.state) × (other.cost < node.cost)

-- nothing has been reached
abbrev pub nothing : Reached
nothing = record { states = []; last = []; nodes = []; open_nodes = [] }

-- a node of the state was added, to the open list too
pub record Adds (old : Reached) (state : BitSet) (cost parent action : ℕ)
    (new : Reached) : Type 0 where
  pub place : ℕ
  pub here : slice_get new.states place ≡ Some state
  pub states : StaysIn old.states new.states
  pub nodes : new.nodes ≡ old.nodes ++ (record {
    state = place;
    cost = cost;
    parent = parent;
    action = action;
  }) ∷ []
  pub open_nodes : Puts old.open_nodes (length old.nodes) new.open_nodes

-- a node of the state was added, or the state has one that costs no more and nothing has changed
abbrev pub Notes : Reached → BitSet → ℕ → ℕ → ℕ → Reached → Type 0
Notes old state cost parent action new =
    Adds old state cost parent action new ⊎ ((new ≡ old) × HasNode old state cost)

-- What a search in a cube below a cost adds to a log, and why it stops.
use Rattle.std.specs.Prelude.{ℕ, ◌≡◌, List, ◌++◌, length, Contains}
use Rattle.mre_base.specs.declared.node.Node.{Node}
use Rattle.mre_base.specs.declared.node.Node.TheVariants as nodes
use Rattle.mre_base.specs.Log.{Log}
use Rattle.cube_kit.specs.Cubes.{CubeMeaning}
use Rattle.task_kit.specs.Tasks.{TaskMeaning}
use Rattle.search_log.specs.declared.stop.SearchStop.{SearchStop}
use Rattle.search_log.specs.declared.stop.SearchStop.TheVariants as stops
use Rattle.search_log.specs.Due.{IsStateDue}
use Rattle.search_log.specs.Nodes.{EachAfter}

-- the node is the cube's probe, or a state of the cube that is due after these nodes
abbrev pub IsOfSearch : TaskMeaning → CubeMeaning → ℕ → List Node → Node → Type 0
IsOfSearch task c k log (nodes.Split up told left place) = ⊥
IsOfSearch task c k log (nodes.Probe told left) = (told ≡ c.told) × (left ≡ c.left)
IsOfSearch task c k log (nodes.State told left bits) =
    (told ≡ c.told) × (left ≡ c.left) × IsStateDue task c k log bits

-- the node is one of the search, and isn't among the nodes before it
abbrev pub IsNewOfSearch : TaskMeaning → CubeMeaning → ℕ → List Node → Node → Type 0
IsNewOfSearch task c k log node = IsOfSearch task c k log node × ¬ Contains log node

-- the log grew by new nodes of the search
pub record Searches (task : TaskMeaning) (c : CubeMeaning) (k : ℕ) (old new : Log) : Type 0 where
  pub limit : new.limit ≡ old.limit
  pub added : List Node
  pub nodes : new.nodes ≡ old.nodes ++ added
  pub each : EachAfter (IsNewOfSearch task c k) old.nodes added

-- the search stops for want of room only where the log is full, and the next node of the search
-- isn't in it
abbrev pub StopsBelow : TaskMeaning → CubeMeaning → ℕ → Log → SearchStop → Type 0
StopsBelow task c k log (stops.Spent due) =
    (length log.nodes ≡ log.limit) × IsNewOfSearch task c k log.nodes due
StopsBelow task c k log stops.NoMemory = Unit {0}

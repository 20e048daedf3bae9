-- What logging a node does to a log.
use Rattle.std.specs.Prelude.{◌≡◌, [], ◌∷◌, ◌++◌, length, Contains, ◌⊎◌}
use Rattle.mre_base.specs.declared.node.Node.{Node}
use Rattle.mre_base.specs.Log.{Log}
use Rattle.search_log.specs.declared.stop.SearchStop.{SearchStop}
use Rattle.search_log.specs.declared.stop.SearchStop.TheVariants as stops

-- the node was in the log, and nothing has changed; or it wasn't, and is now the last one
abbrev pub Logs : Log → Node → Log → Type 0
Logs old node new =
    (Contains old.nodes node × (new ≡ old))
    ⊎ (¬ Contains old.nodes node × (new ≡ record old { nodes = old.nodes ++ node ∷ [] }))

-- a node is due, the log is full, and the node isn't in it
abbrev pub StopsAt : Log → Node → SearchStop → Type 0
StopsAt log node (stops.Spent due) =
    (due ≡ node) × (length log.nodes ≡ log.limit) × ¬ Contains log.nodes due
StopsAt log node stops.NoMemory = Unit {0}

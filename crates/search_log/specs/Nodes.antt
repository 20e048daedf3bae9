-- The nodes of a search in a cube, and lists of nodes that are judged one after another.
use Rattle.std.specs.Prelude.{List, [], ◌∷◌, ◌++◌}
use Rattle.mre_base.specs.declared.node.Node.{Node}
use Rattle.mre_base.specs.declared.node.Node.TheVariants as nodes
use Rattle.mre_base.specs.Sets.{BitSet}
use Rattle.cube_kit.specs.Cubes.{CubeMeaning}

-- the node of a search that begins in the cube
abbrev pub probe_node : CubeMeaning → Node
probe_node c = nodes.Probe c.told c.left

-- the node of a state that a search in the cube expands
abbrev pub state_node : CubeMeaning → BitSet → Node
state_node c bits = nodes.State c.told c.left bits

-- each node has a property that speaks of the nodes before it
abbrev pub EachAfter : (List Node → Node → Type 0) → List Node → List Node → Type 0
EachAfter P before [] = Unit {0}
EachAfter P before (node ∷ later) = P before node × EachAfter P (before ++ node ∷ []) later

-- The cube in which one more number is decided.
use Rattle.std.specs.Prelude.{ℕ, Bool, not}
use Rattle.mre_base.specs.declared.kind.Side.{Side}
use Rattle.mre_base.specs.declared.kind.Side.TheVariants as sides
use Rattle.cube_kit.specs.Cubes.{CubeMeaning, told_child, left_child}

-- the child of a cube in which one of its undecided numbers is on this side
abbrev pub child : CubeMeaning → ℕ → Side → CubeMeaning
child c place sides.Told = told_child c place
child c place sides.Left = left_child c place

-- a set that has the number is on the told side
abbrev pub is_on : Side → Bool → Bool
is_on sides.Told has = has
is_on sides.Left has = not has

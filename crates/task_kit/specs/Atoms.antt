-- The lesser of an atom and an optional one.
use Rattle.std.specs.Prelude.{ℕ, Option, Some, None, min}

-- the lesser of two atoms, if there is a first one
abbrev pub lesser_of : Option ℕ → ℕ → ℕ
lesser_of None atom = atom
lesser_of (Some other) atom = min atom other

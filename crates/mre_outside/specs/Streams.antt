-- What a call does to the bytes that a reader has left, where they are known.
use Rattle.std.specs.Prelude.{ℕ, ◌≤◌, List, length, Option}
use Rattle.std.specs.Io.KnownBytes.{Consumes}

-- at most this number of bytes were taken
abbrev pub TakesAtMost : Option (List ℕ) → Option (List ℕ) → ℕ → Type 0
TakesAtMost old new most = (taken : List ℕ) × (length taken ≤ most) × Consumes old new taken

-- When a call on a shelf or a sink may answer that it failed: only where its count of failures rose.
-- The count is a `u64` and stops at its largest value.
use Rattle.std.specs.Prelude.{ℕ, ◌+◌, ◌-◌, ◌^◌, ◌≤◌, min}

-- the count after one more failure
abbrev pub one_more : ℕ → ℕ
one_more count = min (count + 1) (2 ^ 64 - 1)

-- the count has risen, or is at its largest value
abbrev pub Rose : ℕ → ℕ → Type 0
Rose before now = one_more before ≤ now

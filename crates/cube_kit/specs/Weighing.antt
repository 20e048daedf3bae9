-- The weights of the differences, listed from difference 1 on.
use Rattle.std.specs.Prelude.{ℕ, ◌-◌, ◌≡◌, ◌≤◌, List, length, slice_index}

-- each difference has a weight from 1 to 1000000
abbrev pub AreWeights : List ℕ → Type 0
AreWeights weights =
    (place : ℕ) → 1 ≤ place → place ≤ length weights
    → (1 ≤ slice_index weights (place - 1)) × (slice_index weights (place - 1) ≤ 1000000)

-- the list has a weight for each number that a difference may have
pub record IsWeighing (weights : List ℕ) : Type 0 where
  pub whole : length weights ≡ 256
  pub each : AreWeights weights

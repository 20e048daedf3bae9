-- The open list: places with costs, as the list of its pairs in no particular order.
use Rattle.std.specs.Prelude.{ℕ, ◌+◌, ◌≡◌, List, length, Contains, ◌⊎◌}

-- the place is in the open list, with some cost
abbrev pub IsOpen : List (ℕ × ℕ) → ℕ → Type 0
IsOpen queue place = (cost : ℕ) × Contains queue (cost, place)

-- the place was put into the open list
pub record Puts (old : List (ℕ × ℕ)) (place : ℕ) (new : List (ℕ × ℕ)) : Type 0 where
  pub is_open : IsOpen new place
  pub others : (p : ℕ) → IsOpen old p → IsOpen new p
  pub only : (p : ℕ) → IsOpen new p → (p ≡ place) ⊎ IsOpen old p
  pub one_more : length new ≡ length old + 1

-- the place was taken out of the open list
pub record Takes (old : List (ℕ × ℕ)) (place : ℕ) (new : List (ℕ × ℕ)) : Type 0 where
  pub was_open : IsOpen old place
  pub others : (p : ℕ) → IsOpen old p → (p ≡ place) ⊎ IsOpen new p
  pub only : (p : ℕ) → IsOpen new p → IsOpen old p
  pub one_less : length new + 1 ≡ length old

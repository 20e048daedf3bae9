-- All sets of the numbers from 1 to a bound.
use Rattle.std.specs.Prelude.{ℕ, zero, suc, ◌-◌, List, [], ◌∷◌, ◌++◌, map, filter, nat_eq, Contains}
use Rattle.std.specs.FinSet as set
use Rattle.mre_base.specs.Before.{count_of}
use Rattle.cube_kit.specs.Cubes.{Told, IsWithin}

-- each set with one more number
abbrev pub all_with : ℕ → List Told → List Told
all_with place sets = map (λ s. set.insert s place) sets

-- the sets of the last n numbers up to a bound: those with the first of these numbers, and then
-- those without it
abbrev pub sets_from : ℕ → ℕ → List Told
sets_from bound zero = set.empty ∷ []
sets_from bound (suc n) = all_with (bound - n) (sets_from bound n) ++ sets_from bound n

-- the sets of fewer numbers than a size, smaller sets first
abbrev pub of_sizes : List Told → ℕ → List Told
of_sizes sets zero = []
of_sizes sets (suc size) = of_sizes sets size ++ filter (λ s. nat_eq (count_of s) size) sets

-- the list has each set of numbers from 1 to the bound, and no other
pub record ListsAll (bound : ℕ) (sets : List Told) : Type 0 where
  pub within : (s : Told) → Contains sets s → IsWithin bound s
  pub all : (s : Told) → IsWithin bound s → Contains sets s

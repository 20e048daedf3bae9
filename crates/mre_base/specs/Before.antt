-- The order of sets of difference numbers: the smaller total weight first, then the fewer numbers,
-- then the earlier ascending list.
use Rattle.std.specs.Prelude.{ℕ, ◌-◌, Bool, true, false, List, [], ◌∷◌, length, filter, sum_by}
use Rattle.std.specs.Prelude.{slice_index, nat_lt, nat_eq, if◌then◌else◌}
use Rattle.std.specs.List.{range_with_len}
use Rattle.std.specs.Ordering.{nat_cmp}
use Rattle.std.specs.FinSet as set

-- the numbers from 1 to d that are in a set, in ascending order
abbrev pub numbers : ℕ → set.FinSet nat_cmp → List ℕ
numbers d told = filter (set.contains told) (range_with_len 1 d)

-- the number of differences, from 1 to 256, in a set
unfoldable pub count_of : set.FinSet nat_cmp → ℕ
count_of told = length (numbers 256 told)

-- the sum of the weights of some differences; the weights are listed from difference 1 on
abbrev pub weight : List ℕ → List ℕ → ℕ
weight weights ks = sum_by (λ k. slice_index weights (k - 1)) ks

-- the lists differ at some place, and at the first place where they do the first list has the
-- smaller number or has ended
abbrev pub is_earlier_list : List ℕ → List ℕ → Bool
is_earlier_list [] [] = false
is_earlier_list [] (y ∷ ys) = true
is_earlier_list (x ∷ xs) [] = false
is_earlier_list (x ∷ xs) (y ∷ ys) = if nat_eq x y then is_earlier_list xs ys else nat_lt x y

-- fewer numbers, or equally many and the earlier list
abbrev pub is_smaller : List ℕ → List ℕ → Bool
is_smaller xs ys =
    if nat_eq (length xs) (length ys) then is_earlier_list xs ys else nat_lt (length xs) (length ys)

-- a smaller total weight, or an equal weight and a smaller list
abbrev pub is_lighter : List ℕ → List ℕ → List ℕ → Bool
is_lighter weights xs ys =
    if nat_eq (weight weights xs) (weight weights ys) then is_smaller xs ys
    else nat_lt (weight weights xs) (weight weights ys)

-- one set of differences is before another
abbrev pub is_before : List ℕ → set.FinSet nat_cmp → set.FinSet nat_cmp → Bool
is_before weights one two =
    is_lighter weights (numbers (length weights) one) (numbers (length weights) two)

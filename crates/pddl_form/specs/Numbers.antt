-- The numbers that words spell. A byte 48 to 57 is a digit, and 46 is the point.
use Rattle.std.specs.Prelude.{ℕ, ◌+◌, ◌-◌, ◌*◌, ◌<◌, ◌≤◌, ◌≡◌, ◌==◌, ◌&&◌, nat_le, nat_lt, Bool}
use Rattle.std.specs.Prelude.{List, [], ◌∷◌, ◌++◌, IsTrue, length, take, drop, Option, None, Some}
use Rattle.std.specs.Prelude.{if◌then◌else◌}
use Rattle.std.specs.List.{AllByRecursion, list_all}
use Rattle.std.specs.Option.{option_and_then}

-- `0` to `9`
abbrev pub is_digit : ℕ → Bool
is_digit b = nat_le 48 b && nat_le b 57

-- the number with one more digit, if it is at most 4294967295
abbrev pub with_digit : ℕ → ℕ → Option ℕ
with_digit n b =
    if is_digit b && nat_lt (n * 10 + (b - 48)) 4294967296 then Some (n * 10 + (b - 48)) else None

-- the number with all of these digits
abbrev pub with_digits : ℕ → List ℕ → Option ℕ
with_digits n [] = Some n
with_digits n (b ∷ bytes) = option_and_then (λ m. with_digits m bytes) (with_digit n b)

-- the number that digits spell, one at least
abbrev pub whole_number : List ℕ → Option ℕ
whole_number [] = None
whole_number (b ∷ bytes) = with_digits 0 (b ∷ bytes)

-- the place of the first point, or else the length
abbrev pub point_at : List ℕ → ℕ
point_at [] = 0
point_at (b ∷ bytes) = if b == 46 then 0 else point_at bytes + 1

-- each byte is a `0`
abbrev pub are_zeros : List ℕ → Bool
are_zeros bytes = list_all (λ b. b == 48) bytes

-- the number that a word spells: digits, perhaps with a point and any zeros after them
abbrev pub number : List ℕ → Option ℕ
number text =
    if are_zeros (drop (point_at text + 1) text) then whole_number (take (point_at text) text)
    else None

-- ---- the number of a word, as a relation

-- the value of a number followed by these digits
abbrev pub value_after : ℕ → List ℕ → ℕ
value_after n [] = n
value_after n (b ∷ bytes) = value_after (n * 10 + (b - 48)) bytes

-- nothing, or a point and any zeros
abbrev pub IsFraction : List ℕ → Type 0
IsFraction [] = Unit {0}
IsFraction (b ∷ bytes) = (b ≡ 46) × AllByRecursion (λ c. c ≡ 48) bytes

-- the word is digits with this value, at least one, perhaps with a point and any zeros after them
pub record SpellsNumber (text : List ℕ) (n : ℕ) : Type 0 where
  pub digits : List ℕ
  pub rest : List ℕ
  pub parts : text ≡ digits ++ rest
  pub some : 0 < length digits
  pub are_digits : AllByRecursion (λ b. IsTrue (is_digit b)) digits
  pub value : value_after 0 digits ≡ n
  pub small : n ≤ 4294967295
  pub fraction : IsFraction rest

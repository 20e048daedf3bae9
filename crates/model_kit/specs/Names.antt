-- Names. A name is a word whose first byte is a letter, a digit or `_`, kept in lower case.
use Rattle.std.specs.Prelude.{ℕ, ◌==◌, ◌&&◌, ◌||◌, not, nat_le, Bool, true, false, List, [], ◌∷◌}
use Rattle.std.specs.List.{list_any, list_all}

-- the byte may be in a word: 33 to 126 without parentheses and semicolon
abbrev pub is_word_byte : ℕ → Bool
is_word_byte b = nat_le 33 b && nat_le b 126 && not (b == 40) && not (b == 41) && not (b == 59)

-- A to Z
abbrev pub is_capital : ℕ → Bool
is_capital b = nat_le 65 b && nat_le b 90

-- a digit, a small letter or the underscore
abbrev pub is_first_byte : ℕ → Bool
is_first_byte b = (nat_le 48 b && nat_le b 57) || (nat_le 97 b && nat_le b 122) || (b == 95)

-- a byte of words that isn't a capital
abbrev pub is_later_byte : ℕ → Bool
is_later_byte b = is_word_byte b && not (is_capital b)

-- a name in lower case
abbrev pub is_name : List ℕ → Bool
is_name [] = false
is_name (b ∷ bs) = is_first_byte b && list_all is_later_byte bs

-- no entry is the same as a later one
abbrev pub are_distinct : {X : Type 0} → (X → X → Bool) → List X → Bool
are_distinct same [] = true
are_distinct same (x ∷ xs) = not (list_any (same x) xs) && are_distinct same xs

-- each entry passes the test, and no two are the same
abbrev pub are_entries : {X : Type 0} → (X → Bool) → (X → X → Bool) → List X → Bool
are_entries passes same xs = list_all passes xs && are_distinct same xs

-- The numbers that words spell: digits up to the greatest number, perhaps with a point and any
-- zeros after them.
use Rattle.std.proofs.Common.{◌≡◌, ℕ, ◌+◌, ◌-◌, ◌*◌, ◌<◌, ◌≤◌, suc, Bool, true, false, cond, List, [], ◌∷◌, ◌++◌, length, take, drop, Option, Some, None, refl, ap, sym, subst, ◌∙◌, add-one, arith}
use Rattle.std.specs.Prelude.{◌==◌, ◌&&◌, nat_lt, IsTrue}
use Rattle.std.specs.List.{AllByRecursion}
use Rattle.std.specs.Option.{option_and_then}
use Rattle.std.proofs.lemmas.Bool.{and_parts, and_from}
use Rattle.std.proofs.lemmas.Bool.Decides.{nat_tests}
use borrow.Author.Tests.{ltb-true, lt-ltb}
use Rattle.pddl_form.specs.Numbers.{is_digit, with_digits, whole_number, point_at, are_zeros, number, value_after, IsFraction, SpellsNumber}

-- ---- digits

abbrev AreDigits : List ℕ → Type 0
AreDigits bytes = AllByRecursion (λ b. IsTrue (is_digit b)) bytes

-- the number that further digits give, if they give one
record Spelled (m : ℕ) (bytes : List ℕ) (n : ℕ) : Type 0 where
  all : AreDigits bytes
  value : value_after m bytes ≡ n
  small : m ≤ 4294967295 → n ≤ 4294967295

digits_by : (m n b : ℕ) (bytes : List ℕ) (t : Bool) → (is_digit b && nat_lt (m * 10 + (b - 48)) 4294967296) ≡ t → ((k : ℕ) → with_digits k bytes ≡ Some n → Spelled k bytes n)
    → option_and_then (λ k. with_digits k bytes) (cond t (Some (m * 10 + (b - 48))) None) ≡ Some n → Spelled m (b ∷ bytes) n
digits_by m n b bytes true is more e =
    let both = and_parts (is_digit b) (nat_lt (m * 10 + (b - 48)) 4294967296) is in
    let below : m * 10 + (b - 48) < 4294967296 = ltb-true (m * 10 + (b - 48)) 4294967296 both.1 in
    let rest = more (m * 10 + (b - 48)) e in
    record { all = (both.0, rest.all); value = rest.value; small = λ h. rest.small (omega arith) }
digits_by m n b bytes false is more e = absurd cc

spelled : (m n : ℕ) (bytes : List ℕ) → with_digits m bytes ≡ Some n → Spelled m bytes n
spelled m n [] e = let same : m ≡ n = cc in record { all = tt; value = same; small = λ h. subst (λ (k : ℕ). k ≤ 4294967295) same h }
spelled m n (b ∷ bytes) e = digits_by m n b bytes (is_digit b && nat_lt (m * 10 + (b - 48)) 4294967296) refl (λ k. spelled k n bytes) e

grows : (m : ℕ) (bytes : List ℕ) → m ≤ value_after m bytes
grows m [] = omega arith
grows m (b ∷ bytes) = let more = grows (m * 10 + (b - 48)) bytes in omega arith

digits_spell : (m n : ℕ) (bytes : List ℕ) → AreDigits bytes → value_after m bytes ≡ n → n ≤ 4294967295 → with_digits m bytes ≡ Some n
digits_spell m n [] all e small = ap Some e
digits_spell m n (b ∷ bytes) all e small =
    let up = grows (m * 10 + (b - 48)) bytes in
    let below : m * 10 + (b - 48) < 4294967296 = omega arith in
    let passes = and_from (is_digit b) (nat_lt (m * 10 + (b - 48)) 4294967296) all.0 (lt-ltb (m * 10 + (b - 48)) 4294967296 below) in
    ap (λ (t : Bool). option_and_then (λ k. with_digits k bytes) (cond t (Some (m * 10 + (b - 48))) None)) passes
    ∙ digits_spell (m * 10 + (b - 48)) n bytes all.1 e small

-- ---- the point

BeginsPoint : List ℕ → Type 0
BeginsPoint [] = Unit {0}
BeginsPoint (b ∷ bytes) = b ≡ 46

-- a word before its first point and from it on
record Split (text : List ℕ) (k : ℕ) : Type 0 where
  front : List ℕ
  after : List ℕ
  parts : text ≡ front ++ after
  taken : take k text ≡ front
  dropped : drop (k + 1) text ≡ drop 1 after
  point : BeginsPoint after

split_by : (b : ℕ) (bytes : List ℕ) (t : Bool) → (b == 46) ≡ t → Split bytes (point_at bytes) → Split (b ∷ bytes) (cond t 0 (point_at bytes + 1))
unfolding BeginsPoint
split_by b bytes true is rest = record { front = []; after = b ∷ bytes; parts = refl; taken = refl; dropped = refl; point = grind (arith, nat_tests) }
split_by b bytes false is rest = record {
  front = b ∷ rest.front;
  after = rest.after;
  parts = ap (λ (x : List ℕ). b ∷ x) rest.parts;
  taken = rw add-one (ap (λ (x : List ℕ). b ∷ x) rest.taken);
  dropped = ap (λ (k : ℕ). drop k (b ∷ bytes)) (add-one (point_at bytes + 1)) ∙ rest.dropped;
  point = rest.point;
}

split : (text : List ℕ) → Split text (point_at text)
unfolding BeginsPoint
split [] = record { front = []; after = []; parts = refl; taken = refl; dropped = refl; point = tt }
split (b ∷ bytes) = split_by b bytes (b == 46) refl (split bytes)

zeros_all : (bytes : List ℕ) → are_zeros bytes ≡ true → AllByRecursion (λ c. c ≡ 48) bytes
zeros_all [] e = tt
zeros_all (c ∷ bytes) e = let both = and_parts (c == 48) (are_zeros bytes) e in (grind (arith, nat_tests), zeros_all bytes both.1)

all_zeros : (bytes : List ℕ) → AllByRecursion (λ c. c ≡ 48) bytes → are_zeros bytes ≡ true
all_zeros [] all = refl
all_zeros (c ∷ bytes) all = let here : (c == 48) ≡ true = grind (arith, nat_tests, all.0) in and_from (c == 48) (are_zeros bytes) here (all_zeros bytes all.1)

fraction : (after : List ℕ) → BeginsPoint after → are_zeros (drop 1 after) ≡ true → IsFraction after
unfolding BeginsPoint
fraction [] point zeros = tt
fraction (b ∷ bytes) point zeros = (point, zeros_all bytes zeros)

fraction_zeros : (after : List ℕ) → IsFraction after → are_zeros (drop 1 after) ≡ true
fraction_zeros [] is = refl
fraction_zeros (b ∷ bytes) is = all_zeros bytes is.1

point_length : (digits after : List ℕ) → AreDigits digits → IsFraction after → point_at (digits ++ after) ≡ length digits
point_length [] [] all is = refl
point_length [] (b ∷ bytes) all is = let here : (b == 46) ≡ true = grind (arith, nat_tests, is.0) in ap (λ (t : Bool). cond t 0 (point_at bytes + 1)) here
point_length (d ∷ digits) after all is =
    let digit = all.0 in
    let other : (d == 46) ≡ false = grind (arith, nat_tests) in
    let more = point_length digits after all.1 is in
    ap (λ (t : Bool). cond t 0 (point_at (digits ++ after) + 1)) other ∙ omega arith

take_front : (xs ys : List ℕ) → take (length xs) (xs ++ ys) ≡ xs
take_front [] ys = refl
take_front (x ∷ xs) ys = ap (λ (zs : List ℕ). x ∷ zs) (take_front xs ys)

drop_front : (xs ys : List ℕ) → drop (suc (length xs)) (xs ++ ys) ≡ drop 1 ys
drop_front [] ys = refl
drop_front (x ∷ xs) ys = drop_front xs ys

-- ---- numbers

zeros_true : (t : Bool) (found : Option ℕ) (n : ℕ) → cond t found None ≡ Some n → t ≡ true
zeros_true true found n e = refl
zeros_true false found n e = absurd cc

whole_digits : (digits : List ℕ) (n : ℕ) → whole_number digits ≡ Some n → with_digits 0 digits ≡ Some n
whole_digits [] n e = absurd cc
whole_digits (b ∷ digits) n e = e

whole_some : (digits : List ℕ) (n : ℕ) → whole_number digits ≡ Some n → 0 < length digits
whole_some [] n e = absurd cc
whole_some (b ∷ digits) n e = omega arith

digits_whole : (digits : List ℕ) (n : ℕ) → 0 < length digits → with_digits 0 digits ≡ Some n → whole_number digits ≡ Some n
digits_whole [] n some e = absurd (omega arith)
digits_whole (b ∷ digits) n some e = e

pub number_spells : (text : List ℕ) (n : ℕ) → number text ≡ Some n → SpellsNumber text n
number_spells text n e =
    let s = split text in
    let zeros = zeros_true (are_zeros (drop (point_at text + 1) text)) (whole_number (take (point_at text) text)) n e in
    let found : whole_number (take (point_at text) text) ≡ Some n = ap (λ (t : Bool). cond t (whole_number (take (point_at text) text)) None) (sym zeros) ∙ e in
    let whole : whole_number s.front ≡ Some n = ap whole_number (sym s.taken) ∙ found in
    let digits = spelled 0 n s.front (whole_digits s.front n whole) in
    record {
      digits = s.front;
      rest = s.after;
      parts = s.parts;
      some = whole_some s.front n whole;
      are_digits = digits.all;
      value = digits.value;
      small = digits.small (omega arith);
      fraction = fraction s.after s.point (ap are_zeros (sym s.dropped) ∙ zeros);
    }

number_at : (text front after : List ℕ) (k : ℕ) → text ≡ front ++ after → k ≡ length front → are_zeros (drop 1 after) ≡ true → cond (are_zeros (drop (k + 1) text)) (whole_number (take k text)) None ≡ whole_number front
number_at text front after k parts k-is zeros =
    let dropped : drop (k + 1) text ≡ drop 1 after = ap (λ (x : List ℕ). drop (k + 1) x) parts ∙ ap (λ (j : ℕ). drop j (front ++ after)) (add-one k ∙ ap suc k-is) ∙ drop_front front after in
    let taken : take k text ≡ front = ap (λ (x : List ℕ). take k x) parts ∙ ap (λ (j : ℕ). take j (front ++ after)) k-is ∙ take_front front after in
    ap (λ (t : Bool). cond t (whole_number (take k text)) None) (ap are_zeros dropped ∙ zeros) ∙ ap whole_number taken

pub spells_number : (text : List ℕ) (n : ℕ) → SpellsNumber text n → number text ≡ Some n
spells_number text n is =
    number_at text is.digits is.rest (point_at text) is.parts (ap point_at is.parts ∙ point_length is.digits is.rest is.are_digits is.fraction) (fraction_zeros is.rest is.fraction)
    ∙ digits_whole is.digits n is.some (digits_spell 0 n is.digits is.are_digits is.value is.small)

-- The kept bytes of a row, as its bytes are visited from the first.
use Rattle.std.proofs.Common.{◌≡◌, ℕ, ◌+◌, ◌<◌, Bool, true, false, cond, List, [], ◌∷◌, ◌++◌, length, get_or, take, drop, sym, refl, arith, add-one, append_assoc}
use Rattle.std.specs.Prelude.{◌==◌}
use Rattle.std.proofs.Math.Seq.{take-suc, drop-cons}
use Rattle.std.proofs.lemmas.Bool.Decides.{nat_tests}
use Rattle.pddl_text.specs.Bytes.{is_blank}
use Rattle.pddl_text.specs.Plans.{is_empty_row, kept}

-- the kept bytes, where the bytes before a place were visited and the kept ones among them end here
abbrev pub kept_at : List ℕ → ℕ → ℕ → List ℕ
kept_at row place end = cond (is_empty_row (drop place row)) (take end row) (take place row ++ kept (drop place row))

pub kept_start : (row : List ℕ) → kept row ≡ kept_at row 0 0
kept_start [] = refl
kept_start (b ∷ row) = start_of (is_empty_row (b ∷ row)) refl
  where
    start_of : (t : Bool) → is_empty_row (b ∷ row) ≡ t → kept (b ∷ row) ≡ kept_at (b ∷ row) 0 0
    start_of true is = rw is refl
    start_of false is = rw is refl

pub kept_nothing : (row : List ℕ) → is_empty_row row ≡ true → kept row ≡ []
kept_nothing [] is = refl
kept_nothing (b ∷ row) is = rw is refl

-- a blank is passed
blank_more : (front ended rest : List ℕ) (b : ℕ) → (b == 59) ≡ false → is_blank b ≡ true
    → cond (is_empty_row (b ∷ rest)) ended (front ++ kept (b ∷ rest)) ≡ cond (is_empty_row rest) ended ((front ++ b ∷ []) ++ kept rest)
blank_more front ended rest b other blank = blank_of (is_empty_row rest) refl
  where
    blank_of : (t : Bool) → is_empty_row rest ≡ t → cond (is_empty_row (b ∷ rest)) ended (front ++ kept (b ∷ rest)) ≡ cond (is_empty_row rest) ended ((front ++ b ∷ []) ++ kept rest)
    blank_of true is = rw (other, blank, is) refl
    blank_of false is = rw (other, blank, is) (sym (append_assoc front (b ∷ []) (kept rest)))

-- a kept byte is passed
solid_more : (front ended rest : List ℕ) (b : ℕ) → (b == 59) ≡ false → is_blank b ≡ false
    → cond (is_empty_row (b ∷ rest)) ended (front ++ kept (b ∷ rest)) ≡ cond (is_empty_row rest) (front ++ b ∷ []) ((front ++ b ∷ []) ++ kept rest)
solid_more front ended rest b other solid = solid_of (is_empty_row rest) refl
  where
    solid_of : (t : Bool) → is_empty_row rest ≡ t → cond (is_empty_row (b ∷ rest)) ended (front ++ kept (b ∷ rest)) ≡ cond (is_empty_row rest) (front ++ b ∷ []) ((front ++ b ∷ []) ++ kept rest)
    solid_of true is = rw (other, solid, is, kept_nothing rest is) refl
    solid_of false is = rw (other, solid, is) (sym (append_assoc front (b ∷ []) (kept rest)))

not_semicolon : (b : ℕ) → (b ≡ 59 → ⊥) → (b == 59) ≡ false
not_semicolon b other = grind (arith, nat_tests)

module _ (row : List ℕ) (place : ℕ) (inside : place < length row) (other : get_or row place 0 ≡ 59 → ⊥) where
  taken : take (place + 1) row ≡ take place row ++ get_or row place 0 ∷ []
  taken = rw add-one (take-suc row place 0 inside)

  dropped : drop place row ≡ get_or row place 0 ∷ drop (place + 1) row
  dropped = rw add-one (drop-cons row place 0 inside)

  pub kept_blank : (end : ℕ) → is_blank (get_or row place 0) ≡ true → kept_at row place end ≡ kept_at row (place + 1) end
  kept_blank end blank = rw (dropped, taken) (blank_more (take place row) (take end row) (drop (place + 1) row) (get_or row place 0) (not_semicolon (get_or row place 0) other) blank)

  pub kept_solid : (end : ℕ) → is_blank (get_or row place 0) ≡ false → kept_at row place end ≡ kept_at row (place + 1) (place + 1)
  kept_solid end solid = rw (dropped, taken) (solid_more (take place row) (take end row) (drop (place + 1) row) (get_or row place 0) (not_semicolon (get_or row place 0) other) solid)

-- A table that is filled from the last word to the first: at each place is what a fold gives of the words after it.
use Rattle.std.proofs.Common.{◌≡◌, ℕ, ◌+◌, ◌-◌, ◌<◌, ◌≤◌, ◌≢◌, zero, suc, Some, List, [], ◌∷◌, length, drop, get_or, get_or-set_other, get_or-set_same, length-set, refl, sym, ap, subst, ◌∙◌, arith, ⊎_elim}
use Rattle.std.specs.Prelude.{slice_get, slice_set, slice_index}
use Rattle.std.proofs.lemmas.Bool.{cases_lt}
use Rattle.std.proofs.lemmas.List.{drop_all}
use Rattle.mre_base.proofs.Loops.{drop_item}

-- `view` is what a number of the table means, and `fold` the value of the words after a place
module _ {X Y : Type 0} (view : ℕ → Y) (fold : List X → Y) (xs : List X) where
  -- what is known before the words from a place on are passed
  pub record ScannedFrom (from behind : ℕ) (table : List ℕ) : Type 0 where
    pub count : length table ≡ length xs
    pub behind_is : view behind ≡ fold (drop from xs)
    pub each : (place : ℕ) → from < place + 1 → place < length xs → view (slice_index table place) ≡ fold (drop (place + 1) xs)

  pub scan_start : (behind : ℕ) (table : List ℕ) → length table ≡ length xs → view behind ≡ fold [] → ScannedFrom (length xs) behind table
  scan_start behind table count none = record {
    count = count;
    behind_is = none ∙ ap fold (sym (drop_all (length xs) xs (omega arith)));
    each = λ place from lt. absurd (omega arith);
  }

  module _ (from behind next : ℕ) (table : List ℕ) (known : ScannedFrom from behind table) (positive : 0 < from) (within : from ≤ length xs)
      (x : X) (at : slice_get xs (from - 1) ≡ Some x) (said : view next ≡ fold (x ∷ drop from xs)) where
    back : from - 1 + 1 ≡ from
    back = omega arith

    pub scan_more : ScannedFrom (from - 1) next (slice_set table (from - 1) behind)
    scan_more =
        let here : from - 1 < length table = omega (arith, known.count) in
        record {
          count = length-set table (from - 1) behind ∙ known.count;
          behind_is = said ∙ sym (ap fold (drop_item xs (from - 1) x at ∙ ap (λ k. x ∷ drop k xs) back));
          each = λ place lt inside.
              ⊎_elim
              (λ (now : place < from).
              let same : place ≡ from - 1 = omega arith in
              subst (λ p. view (get_or (slice_set table (from - 1) behind) p 0) ≡ fold (drop (p + 1) xs)) (sym same)
              (ap view (get_or-set_same table (from - 1) behind 0 here) ∙ known.behind_is ∙ ap (λ k. fold (drop k xs)) (sym back)))
              (λ past.
              let apart : place ≢ from - 1 = omega arith in
              ap view (get_or-set_other table (from - 1) place behind 0 apart) ∙ known.each place (omega arith) inside)
              (cases_lt place from);
        }

-- within a table it doesn't matter what is past its end
pub index_read : (table : List ℕ) (place other : ℕ) → place < length table → get_or table place other ≡ slice_index table place
index_read [] place other lt = absurd (omega arith)
index_read (n ∷ table) zero other lt = refl
index_read (n ∷ table) (suc place) other lt = index_read table place other (omega arith)

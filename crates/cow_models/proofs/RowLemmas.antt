-- Lists in which one item is written or added, the part of a list that is a row, and counts over numbers.
use Rattle.std.proofs.Common.{◌≡◌, ◌≢◌, ℕ, zero, suc, ◌+◌, ◌*◌, ◌<◌, ◌≤◌, ◌⊎◌, inl, inr, Bool, cond, List, [], ◌∷◌, ◌++◌, length, take, drop, map, min, None, Some, refl, sym, ap, ◌∙◌, subst, zero-add, arith, length-drop}
use Rattle.std.specs.Prelude.{slice_get, slice_set}
use Rattle.std.specs.List.{count_by, range_with_len}
use Rattle.std.proofs.lemmas.Bool.{cases_lt}
use Rattle.std.proofs.lemmas.List.{length-take, length-set, get_or-take, get_or-drop, get_or-set_same, get_or-set_other}
use Rattle.std.proofs.lemmas.List.FromFn.{map-range_with_len_more}
use Rattle.std.proofs.lemmas.List.Sums.{sum_by-append}
use Rattle.std.proofs.lemmas.Option.{slice_get_past, slice_get_within, slice_get-get_or, get_or_from_slice_get}
use Rattle.mre_base.proofs.Options.{same_some}
use Rattle.cow_models.specs.Rows.{row_length}

-- ---- an item written
pub slice_get-set_same : {X : Type 0} (xs : List X) (i : ℕ) (x : X) → i < length xs → slice_get (slice_set xs i x) i ≡ Some x
slice_get-set_same xs i x lt = slice_get-get_or (slice_set xs i x) i x (omega (arith, length-set xs i x)) ∙ ap Some (get_or-set_same xs i x x lt)

pub slice_get-set_other : {X : Type 0} (xs : List X) (i : ℕ) (x : X) (k : ℕ) → k ≢ i → slice_get (slice_set xs i x) k ≡ slice_get xs k
slice_get-set_other xs i x k apart =
    elim (cases_lt k (length xs)) [
      | inl lt ↦ slice_get-get_or (slice_set xs i x) k x (omega (arith, length-set xs i x)) ∙ ap Some (get_or-set_other xs i k x x apart) ∙ sym (slice_get-get_or xs k x lt)
      | inr past ↦ slice_get_past (slice_set xs i x) k (omega (arith, length-set xs i x)) ∙ sym (slice_get_past xs k past)
    ]

-- ---- an item added
pub pushed_cases : {X : Type 0} (xs : List X) (x : X) (k : ℕ) (y : X) → slice_get (xs ++ x ∷ []) k ≡ Some y → (slice_get xs k ≡ Some y) ⊎ ((k ≡ length xs) × (x ≡ y))
pushed_cases [] x zero y at = inr (refl, same_some x y at)
pushed_cases [] x (suc k) y at = let none : None ≡ Some y = sym (slice_get_past [] k (omega arith)) ∙ at in absurd (cc)
pushed_cases (z ∷ xs) x zero y at = inl at
pushed_cases (z ∷ xs) x (suc k) y at = elim (pushed_cases xs x k y at) [ inl there ↦ inl there | inr last ↦ inr (omega (arith, last.0), last.1) ]

-- ---- the part of a list that is a row
pub in_row : {X : Type 0} (xs : List X) (first k : ℕ) (x : X) → k < 16 → slice_get xs (first + k) ≡ Some x → slice_get (take 16 (drop first xs)) k ≡ Some x
in_row xs first k x few at =
    let within : k < length (take 16 (drop first xs)) = omega (arith, length-take 16 (drop first xs), length-drop first xs, slice_get_within xs (first + k) x at) in
    slice_get-get_or (take 16 (drop first xs)) k x within
    ∙ ap Some (get_or-take 16 (drop first xs) k x few ∙ get_or-drop first xs k x ∙ get_or_from_slice_get xs (first + k) x x at)

pub length-row : {X : Type 0} (xs : List X) (row : ℕ) → length (take 16 (drop (16 * row) xs)) ≡ row_length (length xs) row
length-row xs row = length-take 16 (drop (16 * row) xs) ∙ ap (λ n. min 16 n) (length-drop (16 * row) xs)

-- ---- how many of the first numbers pass a test
range_more : (a n : ℕ) → range_with_len a (n + 1) ≡ range_with_len a n ++ (a + n) ∷ []
range_more a n = sym (map-id (range_with_len a (n + 1))) ∙ map-range_with_len_more (λ (k : ℕ). k) a n (a + n) refl ∙ ap (λ xs. xs ++ (a + n) ∷ []) (map-id (range_with_len a n)) where
  map-id : (xs : List ℕ) → map (λ (k : ℕ). k) xs ≡ xs
  map-id [] = refl
  map-id (x ∷ xs) = ap (λ ys. x ∷ ys) (map-id xs)

pub count_next : (p : ℕ → Bool) (n : ℕ) → count_by p (range_with_len 0 (n + 1)) ≡ count_by p (range_with_len 0 n) + cond (p n) 1 0
count_next p n =
    ap (count_by p) (range_more 0 n) ∙ sum_by-append (λ k. cond (p k) 1 0) (range_with_len 0 n) ((0 + n) ∷ [])
    ∙ ap (λ x. count_by p (range_with_len 0 n) + x) (zero-add (cond (p (0 + n)) 1 0) ∙ ap (λ m. cond (p m) 1 0) (zero-add n))

pub count_le : (p : ℕ → Bool) (m n : ℕ) → m ≤ n → count_by p (range_with_len 0 m) ≤ count_by p (range_with_len 0 n)
count_le p m zero le = let none : m ≡ 0 = omega arith in subst (λ k. count_by p (range_with_len 0 k) ≤ count_by p (range_with_len 0 0)) (sym none) (omega arith)
count_le p m (suc n) le = elim (cases_lt m (suc n)) [
  | inl lt ↦
      let rest : count_by p (range_with_len 0 m) ≤ count_by p (range_with_len 0 n) = count_le p m n (omega arith) in
      let more : count_by p (range_with_len 0 (n + 1)) ≡ count_by p (range_with_len 0 n) + cond (p n) 1 0 = count_next p n in
      let one : suc n ≡ n + 1 = omega arith in
      let same : count_by p (range_with_len 0 (suc n)) ≡ count_by p (range_with_len 0 (n + 1)) = ap (λ (k : ℕ). count_by p (range_with_len 0 k)) one in
      omega (arith, rest, more, same)
  | inr past ↦ let same : m ≡ suc n = omega arith in subst (λ k. count_by p (range_with_len 0 k) ≤ count_by p (range_with_len 0 (suc n))) (sym same) (omega arith)
]

-- Items at places: in a list with one more item, and in a list with one item changed.
use Rattle.std.proofs.Common.{◌≡◌, ℕ, zero, suc, ◌+◌, List, [], ◌∷◌, ◌++◌, length, Some, slice_get, slice_set, ◌⊎◌, inl, inr, refl, sym, ap, arith}
use Rattle.std.proofs.lemmas.Option.{none-some}
pub use Rattle.mre_base.proofs.Listed.{item_at as item_there}
pub use Rattle.mre_base.proofs.Options.{same_some}
use Rattle.task_kit.specs.Reached.{StaysIn}

-- one more item
pub stays_push : {A : Type 0} (xs : List A) (x : A) → StaysIn xs (xs ++ x ∷ [])
stays_push [] x i y e = absurd (none-some y e)
stays_push (z ∷ xs) x zero y e = e
stays_push (z ∷ xs) x (suc i) y e = stays_push xs x i y e

pub last_push : {A : Type 0} (xs : List A) (x : A) → slice_get (xs ++ x ∷ []) (length xs) ≡ Some x
last_push [] x = refl
last_push (z ∷ xs) x = last_push xs x

pub push_cases : {A : Type 0} (xs : List A) (x : A) (i : ℕ) (y : A) → slice_get (xs ++ x ∷ []) i ≡ Some y → (slice_get xs i ≡ Some y) ⊎ ((i ≡ length xs) × (y ≡ x))
push_cases [] x zero y e = inr (refl, sym (same_some x y e))
push_cases [] x (suc i) y e = absurd (none-some y e)
push_cases (z ∷ xs) x zero y e = inl e
push_cases (z ∷ xs) x (suc i) y e = elim (push_cases xs x i y e) [ inl h ↦ inl h | inr h ↦ inr (ap suc h.0, h.1) ]

pub length_pushed : {A : Type 0} (xs : List A) (x : A) → length (xs ++ x ∷ []) ≡ length xs + 1
length_pushed [] x = refl
length_pushed (z ∷ xs) x = omega (arith, length_pushed xs x)

-- one item changed
pub set_cases : {A : Type 0} (xs : List A) (i : ℕ) (x : A) (j : ℕ) (y : A) → slice_get (slice_set xs i x) j ≡ Some y → ((j ≡ i) × (y ≡ x)) ⊎ (slice_get xs j ≡ Some y)
set_cases [] i x j y e = inr e
set_cases (z ∷ xs) zero x zero y e = inl (refl, sym (same_some x y e))
set_cases (z ∷ xs) zero x (suc j) y e = inr e
set_cases (z ∷ xs) (suc i) x zero y e = inr e
set_cases (z ∷ xs) (suc i) x (suc j) y e = elim (set_cases xs i x j y e) [ inl h ↦ inl (ap suc h.0, h.1) | inr h ↦ inr h ]

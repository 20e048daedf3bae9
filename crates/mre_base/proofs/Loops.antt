-- One more item in a loop over a list, and the items that a list contains.
use Rattle.std.proofs.Common.{◌≡◌, ℕ, zero, suc, ◌+◌, Bool, ◌||◌, Some, List, [], ◌∷◌, ◌++◌, take, drop, map, refl, sym, ap, ◌∙◌, subst, arith, ◌⊎◌, inl, inr}
use Rattle.std.specs.Prelude.{slice_get, All, Contains}
use Rattle.std.specs.List.{list_any}
use Rattle.std.proofs.lemmas.Option.{slice_get_within, get_or_from_slice_get}
use Rattle.std.proofs.lemmas.List.{take_more, map-append, drop_more}
use Rattle.std.proofs.lemmas.List.Folds.{list_any_more}

module _ {X : Type 0} (xs : List X) (i : ℕ) (x : X) (at : slice_get xs i ≡ Some x) where
  pub take_item : take (i + 1) xs ≡ take i xs ++ x ∷ []
  take_item = take_more xs i x (slice_get_within xs i x at) ∙ ap (λ y. take i xs ++ y ∷ []) (get_or_from_slice_get xs i x x at)

  pub drop_item : drop i xs ≡ x ∷ drop (i + 1) xs
  drop_item = drop_more xs i x (slice_get_within xs i x at) ∙ ap (λ y. y ∷ drop (i + 1) xs) (get_or_from_slice_get xs i x x at)

  pub map_item : {Y : Type 0} (f : X → Y) (old new : List Y) (y : Y) → old ≡ map f (take i xs) → new ≡ old ++ y ∷ [] → y ≡ f x → new ≡ map f (take (i + 1) xs)
  map_item f old new y before now is =
      now ∙ (λ j. before j ++ is j ∷ []) ∙ sym (map-append f (take i xs) (x ∷ [])) ∙ ap (map f) (sym take_item)

  pub list_any_item : (p : X → Bool) → list_any p (take (i + 1) xs) ≡ (list_any p (take i xs) || p x)
  list_any_item p = list_any_more p xs i x (slice_get_within xs i x at) ∙ ap (λ y. list_any p (take i xs) || p y) (get_or_from_slice_get xs i x x at)

  pub All_item : (P : X → Type 0) → All P xs → P x
  All_item P all = subst P (get_or_from_slice_get xs i x x at) (all i x (slice_get_within xs i x at))

-- ---- the items that a list contains
pub contains_cases : {X : Type 0} (x : X) (xs : List X) (y : X) → Contains (x ∷ xs) y → (x ≡ y) ⊎ Contains xs y
contains_cases x xs y (zero, lt, e) = inl e
contains_cases x xs y (suc i, lt, e) = inr (i, omega arith, e)

pub contains_here : {X : Type 0} (x : X) (xs : List X) → Contains (x ∷ xs) x
contains_here x xs = (0, omega arith, refl)

pub contains_later : {X : Type 0} (x : X) (xs : List X) (y : X) → Contains xs y → Contains (x ∷ xs) y
contains_later x xs y (i, lt, e) = (suc i, omega arith, e)

-- What a list contains, and the item at a place of it.
use Rattle.std.proofs.Common.{◌≡◌, ◌≤◌, ◌<◌, ◌+◌, ℕ, zero, suc, Bool, true, false, if◌then◌else◌, Some}
use Rattle.std.proofs.Common.{List, [], ◌∷◌, ◌++◌, take, length, map, filter, refl, sym, ap, ◌∙◌, subst, arith}
use Rattle.std.specs.Prelude.{slice_get, All, Contains}
use Rattle.std.specs.List.{list_any}
use Rattle.std.proofs.lemmas.Bool.{or_from}
use Rattle.std.proofs.lemmas.Option.{slice_get_within, slice_get-get_or, get_or_from_slice_get, none-some}
use Rattle.std.proofs.lemmas.List.Elements.{All-push}
use Rattle.mre_base.proofs.Loops.{take_item, list_any_item, contains_here, contains_later}

-- ---- the item at a place is contained, and what is contained is at some place
pub item_contained : {X : Type 0} (xs : List X) (i : ℕ) (x : X) → slice_get xs i ≡ Some x → Contains xs x
item_contained xs i x at = (i, slice_get_within xs i x at, get_or_from_slice_get xs i x x at)

pub place_of_contained : {X : Type 0} (xs : List X) (x : X) → Contains xs x → (i : ℕ) × (slice_get xs i ≡ Some x)
place_of_contained xs x (i, lt, is) = (i, slice_get-get_or xs i x lt ∙ ap Some is)

-- there is an item at each place below the length
pub item_at : {X : Type 0} (xs : List X) (i : ℕ) → i < length xs → (x : X) × (slice_get xs i ≡ Some x)
item_at [] i lt = absurd (omega arith)
item_at (x ∷ xs) zero lt = (x, refl)
item_at (x ∷ xs) (suc i) lt = item_at xs i (omega arith)

-- an item keeps its place when a list goes on
pub slice_get-append : {X : Type 0} (xs ys : List X) (i : ℕ) (x : X) → slice_get xs i ≡ Some x → slice_get (xs ++ ys) i ≡ Some x
slice_get-append [] ys i x at = absurd (none-some x at)
slice_get-append (z ∷ xs) ys zero x at = at
slice_get-append (z ∷ xs) ys (suc i) x at = slice_get-append xs ys i x at

-- ---- mapped lists
pub map-contains : {X Y : Type 0} (f : X → Y) (xs : List X) (x : X) → Contains xs x → Contains (map f xs) (f x)
map-contains f [] x there = absurd (omega (arith, there.1))
map-contains f (z ∷ xs) x (zero, lt, is) = (zero, omega arith, ap f is)
map-contains f (z ∷ xs) x (suc i, lt, is) = contains_later (f z) (map f xs) (f x) (map-contains f xs x (i, omega arith, is))

pub contains-map : {X Y : Type 0} (f : X → Y) (xs : List X) (y : Y) → Contains (map f xs) y → (x : X) × Contains xs x × (f x ≡ y)
contains-map f [] y there = absurd (omega (arith, there.1))
contains-map f (x ∷ xs) y (zero, lt, is) = (x, contains_here x xs, is)
contains-map f (x ∷ xs) y (suc k, lt, is) =
    let rest = contains-map f xs y (k, omega arith, is) in
    (rest.0, contains_later x xs rest.0 rest.1, rest.2)

-- where two functions agree on the items, the mapped lists are equal
pub map_same : {X Y : Type 0} (f g : X → Y) (xs : List X) → All (λ x. f x ≡ g x) xs → map f xs ≡ map g xs
map_same f g [] all = refl
map_same f g (x ∷ xs) all =
    let here : f x ≡ g x = all 0 x (omega arith) in
    let later : map f xs ≡ map g xs = map_same f g xs (λ k d lt. all (suc k) d (omega arith)) in
    λ i. here i ∷ later i

-- ---- parts of a list
pub filter_few : {X : Type 0} (p : X → Bool) (xs : List X) → length (filter p xs) ≤ length xs
filter_few p [] = omega arith
filter_few p (x ∷ xs) = by (p x) (filter_few p xs)
  where
    by : (b : Bool) → length (filter p xs) ≤ length xs → length (if b then x ∷ filter p xs else filter p xs) ≤ suc (length xs)
    by true rest = omega (arith, rest)
    by false rest = omega (arith, rest)

-- one more item of which something holds
pub all_take_item : {X : Type 0} (P : X → Type 0) (xs : List X) (i : ℕ) (x : X) → slice_get xs i ≡ Some x → All P (take i xs) → P x → All P (take (i + 1) xs)
all_take_item P xs i x at before here =
    subst (All P) (sym (take_item xs i x at)) (All-push P (take i xs) x before here)

-- one more item that fails a test
pub none_take_item : {X : Type 0} (p : X → Bool) (xs : List X) (i : ℕ) (x : X) → slice_get xs i ≡ Some x → p x ≡ false → list_any p (take i xs) ≡ false → list_any p (take (i + 1) xs) ≡ false
none_take_item p xs i x at fails none = list_any_item xs i x at p ∙ or_from (list_any p (take i xs)) (p x) none fails

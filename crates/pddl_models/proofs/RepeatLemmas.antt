-- Lists without repeats: what they keep, and that no two of their entries are the same.
use Rattle.std.proofs.Common.{◌≡◌, ℕ, ◌+◌, ◌≤◌, ◌||◌, Bool, true, false, cond, List, [], ◌∷◌, length, map, refl, sym, ap, ◌∙◌, arith}
use Rattle.std.specs.Prelude.{not, filter}
use Rattle.std.specs.List.{list_any, list_all}
use Rattle.std.specs.Str.{bytes_eq}
use Rattle.std.specs.Cmp.{first_so, second_so}
use Rattle.std.proofs.lemmas.Bool.{true≢false, and_from, not-true, not_from_false}
use Rattle.mre_base.specs.declared.text.Text.{Text}
use Rattle.mre_base.proofs.Tests.{or_not_second}
use Rattle.model_kit.specs.Names.{are_distinct, are_entries}
use Rattle.pddl_vocabulary.specs.Values.{firsts}
use Rattle.pddl_models.proofs.PlaceInLemmas.{is_among, name_same}
use Rattle.pddl_vocabulary.proofs.EntryLemmas.{distinct_firsts}

-- ---- what a filter keeps

module _ {X : Type 0} (keep : X → Bool) where
  passes_by : (p : X → Bool) (x : X) (ys : List X) → list_all p ys ≡ true → p x ≡ true → (k : Bool) → list_all p (cond k (x ∷ ys) ys) ≡ true
  passes_by p x ys all is true = and_from (p x) (list_all p ys) is all
  passes_by p x ys all is false = all

  pub filter_passes : (p : X → Bool) (xs : List X) → list_all p xs ≡ true → list_all p (filter keep xs) ≡ true
  filter_passes p [] all = refl
  filter_passes p (x ∷ xs) all = passes_by p x (filter keep xs) (filter_passes p xs (second_so (p x) (list_all p xs) all)) (first_so (p x) (list_all p xs) all) (keep x)

  none_by : (p : X → Bool) (x : X) (ys : List X) → list_any p ys ≡ false → (a r k : Bool) → p x ≡ a → (a || r) ≡ false → list_any p (cond k (x ∷ ys) ys) ≡ false
  none_by p x ys none true r k is e = absurd (true≢false e)
  none_by p x ys none false r true is e = ap (λ b. b || list_any p ys) is ∙ none
  none_by p x ys none false r false is e = none

  filter_none : (p : X → Bool) (xs : List X) → list_any p xs ≡ false → list_any p (filter keep xs) ≡ false
  filter_none p [] none = refl
  filter_none p (x ∷ xs) none = none_by p x (filter keep xs) (filter_none p xs (or_not_second (p x) (list_any p xs) none)) (p x) (list_any p xs) (keep x) refl none

  distinct_by : (same : X → X → Bool) (x : X) (ys : List X) → list_any (same x) ys ≡ false → are_distinct same ys ≡ true → (k : Bool) → are_distinct same (cond k (x ∷ ys) ys) ≡ true
  distinct_by same x ys none apart true = and_from (not (list_any (same x) ys)) (are_distinct same ys) (not_from_false (list_any (same x) ys) none) apart
  distinct_by same x ys none apart false = apart

  pub filter_distinct : (same : X → X → Bool) (xs : List X) → are_distinct same xs ≡ true → are_distinct same (filter keep xs) ≡ true
  filter_distinct same [] apart = refl
  filter_distinct same (x ∷ xs) apart =
      distinct_by same x (filter keep xs)
      (filter_none (same x) xs (not-true (list_any (same x) xs) (first_so (not (list_any (same x) xs)) (are_distinct same xs) apart)))
      (filter_distinct same xs (second_so (not (list_any (same x) xs)) (are_distinct same xs) apart)) (keep x)

  any_by : (p : X → Bool) (x : X) (ys : List X) → (p x ≡ true → keep x ≡ true) → (a r : Bool) → p x ≡ a → (r ≡ true → list_any p ys ≡ true) → (a || r) ≡ true → (k : Bool) → keep x ≡ k
      → list_any p (cond k (x ∷ ys) ys) ≡ true
  any_by p x ys kept true r is rest e true keeps = ap (λ b. b || list_any p ys) is
  any_by p x ys kept true r is rest e false keeps = absurd (true≢false (sym (kept is) ∙ keeps))
  any_by p x ys kept false r is rest e true keeps = ap (λ b. b || list_any p ys) is ∙ rest e
  any_by p x ys kept false r is rest e false keeps = rest e

  pub filter_any : (p : X → Bool) → ((x : X) → p x ≡ true → keep x ≡ true) → (xs : List X) → list_any p xs ≡ true → list_any p (filter keep xs) ≡ true
  filter_any p kept [] e = e
  filter_any p kept (x ∷ xs) e = any_by p x (filter keep xs) (kept x) (p x) (list_any p xs) refl (filter_any p kept xs) e (keep x) refl

-- ---- the first of each

module _ {X : Type 0} (same : X → X → Bool) where
  pub firsts_pass : (p : X → Bool) (xs : List X) → list_all p xs ≡ true → list_all p (firsts same xs) ≡ true
  firsts_pass p [] all = refl
  firsts_pass p (x ∷ xs) all =
      and_from (p x) (list_all p (filter (λ y. not (same x y)) (firsts same xs))) (first_so (p x) (list_all p xs) all)
      (filter_passes (λ y. not (same x y)) p (firsts same xs) (firsts_pass p xs (second_so (p x) (list_all p xs) all)))

  -- entries that pass are entries of a list without repeats
  pub firsts_entries : (p : X → Bool) (xs : List X) → list_all p xs ≡ true → are_entries p same (firsts same xs) ≡ true
  firsts_entries p xs all = and_from (list_all p (firsts same xs)) (are_distinct same (firsts same xs)) (firsts_pass p xs all) (distinct_firsts same xs)

-- a name among the names is among the first of each
among_by : (x t : Text) (zs : List Text) → (b r : Bool) → bytes_eq x t ≡ b → (r ≡ true → is_among zs t ≡ true) → (b || r) ≡ true → (b || is_among (filter (λ y. not (bytes_eq x y)) zs) t) ≡ true
among_by x t zs true r is rest e = refl
among_by x t zs false r is rest e = filter_any (λ y. not (bytes_eq x y)) (λ o. bytes_eq o t) other zs (rest e)
  where
    other : (y : Text) → bytes_eq y t ≡ true → not (bytes_eq x y) ≡ true
    other y here = by (bytes_eq x y) refl
      where
        by : (b : Bool) → bytes_eq x y ≡ b → not b ≡ true
        by true same = absurd (true≢false (sym (ap (λ (u : Text). bytes_eq u t) (name_same x y same) ∙ here) ∙ is))
        by false same = refl

pub firsts_among : (names : List Text) (t : Text) → is_among names t ≡ true → is_among (firsts bytes_eq names) t ≡ true
firsts_among [] t e = e
firsts_among (x ∷ xs) t e = among_by x t (firsts bytes_eq xs) (bytes_eq x t) (is_among xs t) refl (firsts_among xs t) e

-- ---- the first of each, in other words

module _ {X Y : Type 0} (f : X → Y) (p : X → Bool) where
  image_by : (x : X) (ys : List X) (zs : List Y) (k l : Bool) → k ≡ l → map f ys ≡ zs → map f (cond k (x ∷ ys) ys) ≡ cond l (f x ∷ zs) zs
  image_by x ys zs true true e is = ap (λ us. f x ∷ us) is
  image_by x ys zs true false e is = absurd (true≢false e)
  image_by x ys zs false true e is = absurd (true≢false (sym e))
  image_by x ys zs false false e is = is

  map-filter : (k : X → Bool) (l : Y → Bool) → ((x : X) → p x ≡ true → k x ≡ l (f x)) → (xs : List X) → list_all p xs ≡ true → map f (filter k xs) ≡ filter l (map f xs)
  map-filter k l like [] all = refl
  map-filter k l like (x ∷ xs) all =
      image_by x (filter k xs) (filter l (map f xs)) (k x) (l (f x)) (like x (first_so (p x) (list_all p xs) all)) (map-filter k l like xs (second_so (p x) (list_all p xs) all))

  pub map-firsts : (same : X → X → Bool) (alike : Y → Y → Bool) → ((x y : X) → p x ≡ true → p y ≡ true → same x y ≡ alike (f x) (f y))
      → (xs : List X) → list_all p xs ≡ true → map f (firsts same xs) ≡ firsts alike (map f xs)
  map-firsts same alike like [] all = refl
  map-firsts same alike like (x ∷ xs) all =
      let here = first_so (p x) (list_all p xs) all in
      let rest = second_so (p x) (list_all p xs) all in
      ap (λ us. f x ∷ us)
      (map-filter (λ y. not (same x y)) (λ y. not (alike (f x) y)) (λ y is. ap not (like x y here is)) (firsts same xs) (firsts_pass same p xs rest)
      ∙ ap (filter (λ y. not (alike (f x) y))) (map-firsts same alike like xs rest))

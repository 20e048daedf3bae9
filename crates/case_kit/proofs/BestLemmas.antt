-- Costs that may be absent: the lesser and the greater of two, and bounds.
use Rattle.std.proofs.Common.{◌≡◌, ℕ, ◌≤◌, ◌<◌, Option, None, Some, min, max, refl, ap, arith, ◌⊎◌, inl, inr}
use Rattle.std.proofs.lemmas.Bool.{cases_lt}
use Rattle.case_kit.specs.declared.way.Way.{Way}
use Rattle.case_kit.specs.declared.way.Way.TheVariants.{Permissive, Restrictive}
use Rattle.case_kit.specs.Relaxed.{IsNoDearer}
use Rattle.case_kit.specs.Evaluated.{best_of}

pub no_dearer-itself : (x : Option ℕ) → IsNoDearer x x
no_dearer-itself None = tt
no_dearer-itself (Some n) = omega arith

pub no_dearer-trans : (x y z : Option ℕ) → IsNoDearer x y → IsNoDearer y z → IsNoDearer x z
no_dearer-trans x y None a b = tt
no_dearer-trans x None (Some n) a b = absurd b
no_dearer-trans None (Some m) (Some n) a b = absurd a
no_dearer-trans (Some l) (Some m) (Some n) a b = omega arith

pub no_dearer-both : (x y : Option ℕ) → IsNoDearer x y → IsNoDearer y x → x ≡ y
no_dearer-both None None a b = refl
no_dearer-both None (Some n) a b = absurd a
no_dearer-both (Some m) None a b = absurd b
no_dearer-both (Some m) (Some n) a b = ap Some (both m n a b) where
  both : (i j : ℕ) → i ≤ j → j ≤ i → i ≡ j
  both i j le ge = omega arith

-- in the permissive task a cost bounds those of the members from below, in the restrictive one from above
abbrev pub Bounds : Way → Option ℕ → Option ℕ → Type 0
Bounds Permissive bound cost = IsNoDearer bound cost
Bounds Restrictive bound cost = IsNoDearer cost bound

pub bounds-itself : (way : Way) (x : Option ℕ) → Bounds way x x
bounds-itself Permissive x = no_dearer-itself x
bounds-itself Restrictive x = no_dearer-itself x

pub bounds-trans : (way : Way) (x y z : Option ℕ) → Bounds way x y → Bounds way y z → Bounds way x z
bounds-trans Permissive x y z a b = no_dearer-trans x y z a b
bounds-trans Restrictive x y z a b = no_dearer-trans z y x b a

pub best_first : (way : Way) (x y : Option ℕ) → Bounds way (best_of way x y) x
best_first Permissive None y = tt
best_first Permissive (Some m) None = no_dearer-itself (Some m)
best_first Permissive (Some m) (Some n) = omega arith
best_first Restrictive None y = tt
best_first Restrictive (Some m) None = tt
best_first Restrictive (Some m) (Some n) = omega arith

pub best_second : (way : Way) (x y : Option ℕ) → Bounds way (best_of way x y) y
best_second Permissive None y = no_dearer-itself y
best_second Permissive (Some m) None = tt
best_second Permissive (Some m) (Some n) = omega arith
best_second Restrictive None None = tt
best_second Restrictive None (Some n) = tt
best_second Restrictive (Some m) None = tt
best_second Restrictive (Some m) (Some n) = omega arith

-- it is one of the two
pub best_picks : (way : Way) (x y : Option ℕ) → (best_of way x y ≡ x) ⊎ (best_of way x y ≡ y)
best_picks Permissive None y = inr refl
best_picks Permissive (Some m) None = inl refl
best_picks Permissive (Some m) (Some n) =
    elim (cases_lt m n) [ inl lt ↦ inl (ap Some (first m n lt)) | inr le ↦ inr (ap Some (second m n le)) ]
  where
    first : (i j : ℕ) → i < j → min i j ≡ i
    first i j lt = omega arith

    second : (i j : ℕ) → j ≤ i → min i j ≡ j
    second i j le = omega arith
best_picks Restrictive None y = inl refl
best_picks Restrictive (Some m) None = inr refl
best_picks Restrictive (Some m) (Some n) =
    elim (cases_lt m n) [ inl lt ↦ inr (ap Some (second m n lt)) | inr le ↦ inl (ap Some (first m n le)) ]
  where
    first : (i j : ℕ) → j ≤ i → max i j ≡ i
    first i j le = omega arith

    second : (i j : ℕ) → i < j → max i j ≡ j
    second i j lt = omega arith

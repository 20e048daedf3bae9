-- The items of a list that have a property, in an order that is total on them.
use Rattle.std.proofs.Common.{◌≡◌, ℕ, Bool, List, [], ◌∷◌, get_or, ap, sym, subst, arith, ◌∙◌, refl, ⊎_elim, inl, inr}
use Rattle.std.specs.Prelude.{◌⊎◌, AllPairs, Contains}
use Rattle.std.specs.Bool.{Decides}
use Rattle.std.specs.Ordering.{nat_cmp, ordering_reverse}
use Rattle.std.specs.declared.cmp.Ordering.{Ordering}
use Rattle.std.specs.declared.cmp.Ordering.TheVariants.{Less, Equal, Greater}
use Rattle.std.specs.Cmp.Lexicographic.{slice_cmp}
use Rattle.std.proofs.lemmas.Bool.{true≢false, cases_Bool}
use Rattle.std.proofs.lemmas.Cmp.{nat_list_cmp_total}
use Rattle.std.proofs.lemmas.Map.Lookups.{exact_bytes}
use Rattle.std.proofs.lemmas.List.Kept.{AllPairs-cons}
use Rattle.std.proofs.lemmas.Option.{slice_get-get_or}
use Rattle.mre_base.proofs.Loops.{contains_cases, contains_here, contains_later}
use Rattle.mre_base.proofs.Listed.{item_contained}

module _ {X : Type 0} (R : X → X → Type 0) (trans : (x y z : X) → R x y → R y z → R x z) where
  -- each item comes before the later ones
  abbrev pub Ascend : List X → Type 0
  Ascend [] = Unit {0}
  Ascend (x ∷ xs) = ((y : X) → Contains xs y → R x y) × Ascend xs

  pub pairs_of : (xs : List X) → Ascend xs → AllPairs R xs
  pairs_of [] ordered = λ i j d lt within. absurd (omega arith)
  pairs_of (x ∷ xs) ordered =
      AllPairs-cons R x xs (λ k d lt. ordered.0 (get_or xs k d) (item_contained xs k (get_or xs k d) (slice_get-get_or xs k d lt))) (pairs_of xs ordered.1)

  module _ (P : X → Type 0) (total : (x y : X) → P x → P y → (x ≡ y) ⊎ (R x y ⊎ R y x)) where
    -- the list with one more item, at its place
    pub record ArePut (x : X) (xs ys : List X) : Type 0 where
      pub ordered : Ascend ys
      pub from : (y : X) → Contains ys y → (x ≡ y) ⊎ Contains xs y
      pub here : Contains ys x
      pub kept : (y : X) → Contains xs y → Contains ys y

    put : (x : X) → P x → (xs : List X) → ((y : X) → Contains xs y → P y) → Ascend xs → (ys : List X) × ArePut x xs ys
    put x has [] each ordered = (
      x ∷ [],
      record {
        ordered = ((λ y at. absurd (omega (arith, at.1))), tt);
        from = λ y at. contains_cases x [] y at;
        here = contains_here x [];
        kept = λ y at. absurd (omega (arith, at.1));
      },
    )
    put x has (z ∷ xs) each ordered = by (put x has xs (λ y at. each y (contains_later z xs y at)) ordered.1) (total x z has (each z (contains_here z xs)))
      where
        by : ((ys : List X) × ArePut x xs ys) → (x ≡ z) ⊎ (R x z ⊎ R z x) → (ys : List X) × ArePut x (z ∷ xs) ys
        by rest (inl same) = (
          z ∷ xs,
          record { ordered = ordered; from = λ y at. inr at; here = subst (Contains (z ∷ xs)) (sym same) (contains_here z xs); kept = λ y at. at },
        )
        by rest (inr (inl before)) = (
          x ∷ (z ∷ xs),
          record {
            ordered = ((λ y at. ⊎_elim (λ is. subst (R x) is before) (λ later. trans x z y before (ordered.0 y later)) (contains_cases z xs y at)), ordered);
            from = λ y at. contains_cases x (z ∷ xs) y at;
            here = contains_here x (z ∷ xs);
            kept = λ y at. contains_later x (z ∷ xs) y at;
          },
        )
        by rest (inr (inr after)) = (
          z ∷ rest.0,
          record {
            ordered = ((λ y at. ⊎_elim (λ is. subst (R z) is after) (λ old. ordered.0 y old) (rest.1.from y at)), rest.1.ordered);
            from = λ y at. ⊎_elim
                (λ is. inr (subst (Contains (z ∷ xs)) is (contains_here z xs)))
                (λ later. ⊎_elim (λ new. inl new) (λ old. inr (contains_later z xs y old)) (rest.1.from y later))
                (contains_cases z rest.0 y at);
            here = contains_later z rest.0 x rest.1.here;
            kept = λ y at. ⊎_elim
                (λ is. subst (Contains (z ∷ rest.0)) is (contains_here z rest.0))
                (λ later. contains_later z rest.0 y (rest.1.kept y later))
                (contains_cases z xs y at);
          },
        )

    -- the items of the first list that have the property, in order
    pub record AreKept (xs ys : List X) : Type 0 where
      pub ordered : Ascend ys
      pub from : (y : X) → Contains ys y → Contains xs y
      pub each : (y : X) → Contains ys y → P y
      pub all : (y : X) → Contains xs y → P y → Contains ys y

    pub kept_of : ((x : X) → P x ⊎ ¬ P x) → (xs : List X) → (ys : List X) × AreKept xs ys
    kept_of known [] = ([], record { ordered = tt; from = λ y at. at; each = λ y at. absurd (omega (arith, at.1)); all = λ y at has. absurd (omega (arith, at.1)) })
    kept_of known (x ∷ xs) = by (kept_of known xs) (known x)
      where
        with_it : (rest : (ys : List X) × AreKept xs ys) → P x → ((ys : List X) × ArePut x rest.0 ys) → (ys : List X) × AreKept (x ∷ xs) ys
        with_it rest has made = (
          made.0,
          record {
            ordered = made.1.ordered;
            from = λ y at. ⊎_elim
                (λ is. subst (Contains (x ∷ xs)) is (contains_here x xs))
                (λ old. contains_later x xs y (rest.1.from y old))
                (made.1.from y at);
            each = λ y at. ⊎_elim (λ is. subst P is has) (λ old. rest.1.each y old) (made.1.from y at);
            all = λ y at own. ⊎_elim
                (λ is. subst (Contains made.0) is made.1.here)
                (λ later. made.1.kept y (rest.1.all y later own))
                (contains_cases x xs y at);
          },
        )

        by : ((ys : List X) × AreKept xs ys) → P x ⊎ ¬ P x → (ys : List X) × AreKept (x ∷ xs) ys
        by rest (inl has) = with_it rest has (put x has rest.0 rest.1.each rest.1.ordered)
        by rest (inr lacks) = (
          rest.0,
          record {
            ordered = rest.1.ordered;
            from = λ y at. contains_later x xs y (rest.1.from y at);
            each = rest.1.each;
            all = λ y at own. ⊎_elim (λ is. absurd (lacks (subst P (sym is) own))) (λ later. rest.1.all y later own) (contains_cases x xs y at);
          },
        )

    -- the item is in the list, has the property, and comes before each other item that has it
    pub record IsFirstOf (xs : List X) (x : X) : Type 0 where
      pub listed : Contains xs x
      pub has : P x
      pub first : (y : X) → Contains xs y → P y → (x ≡ y) ⊎ R x y

    -- no item has the property, or one of those that have it comes first
    pub first_known : ((x : X) → P x ⊎ ¬ P x) → (xs : List X) → ((x : X) → Contains xs x → ¬ P x) ⊎ ((x : X) × IsFirstOf xs x)
    first_known known xs = by (kept_of known xs).0 (kept_of known xs).1
      where
        by : (ys : List X) → AreKept xs ys → ((x : X) → Contains xs x → ¬ P x) ⊎ ((x : X) × IsFirstOf xs x)
        by [] are = inl (λ x at has. let none = are.all x at has in omega (arith, none.1))
        by (x ∷ ys) are = inr (
          x,
          record {
            listed = are.from x (contains_here x ys);
            has = are.each x (contains_here x ys);
            first = λ y at has. ⊎_elim (λ is. inl is) (λ later. inr (are.ordered.0 y later)) (contains_cases x ys y (are.all y at has));
          },
        )

-- ---- tests of equality, and texts in ASCII order

pub equal_known : {X : Type 0} (same : X → X → Bool) → ((x y : X) → Decides (same x y) (x ≡ y)) → (x y : X) → (x ≡ y) ⊎ ¬ (x ≡ y)
equal_known same decides x y =
    ⊎_elim (λ yes. inl ((decides x y).0 yes)) (λ no. inr (λ is. true≢false (sym ((decides x y).1 is) ∙ no))) (cases_Bool (same x y))

pub texts_trans : (f g h : List ℕ) → slice_cmp nat_cmp f g ≡ Less → slice_cmp nat_cmp g h ≡ Less → slice_cmp nat_cmp f h ≡ Less
texts_trans = nat_list_cmp_total.trans

pub texts_total : (f g : List ℕ) → (f ≡ g) ⊎ ((slice_cmp nat_cmp f g ≡ Less) ⊎ (slice_cmp nat_cmp g f ≡ Less))
texts_total f g = by (slice_cmp nat_cmp f g) refl
  where
    by : (r : Ordering) → slice_cmp nat_cmp f g ≡ r → (f ≡ g) ⊎ ((slice_cmp nat_cmp f g ≡ Less) ⊎ (slice_cmp nat_cmp g f ≡ Less))
    by Less is = inr (inl is)
    by Equal is = inl (exact_bytes f g is)
    by Greater is = inr (inr (nat_list_cmp_total.antisymm g f ∙ ap ordering_reverse is))

-- Two lists with the same items in the same strict order are equal.
use Rattle.std.proofs.Common.{◌≡◌, ℕ, zero, suc, List, [], ◌∷◌, refl, sym, ap, subst, ◌∙◌, arith, ⊎_elim}
use Rattle.std.specs.Prelude.{AllPairs, Contains}
use Rattle.std.specs.Ordering.{nat_cmp, ordering_reverse}
use Rattle.std.specs.declared.cmp.Ordering.TheVariants.{Less, Greater}
use Rattle.std.specs.Cmp.Lexicographic.{slice_cmp}
use Rattle.std.proofs.lemmas.Cmp.{nat_list_cmp_total}
use Rattle.std.proofs.lemmas.List.Elements.{All-contains}
use Rattle.mre_base.proofs.Loops.{contains_cases, contains_later}

-- an order that never holds both ways
module _ {X : Type 0} (R : X → X → Type 0) (one_way : (x y : X) → R x y → R y x → ⊥) where
  pub head_before : (x : X) (xs : List X) → AllPairs R (x ∷ xs) → (y : X) → Contains xs y → R x y
  head_before x xs pairs y there = All-contains (R x) xs y (λ j d lt. pairs zero (suc j) d (omega arith) (omega (arith, lt))) there

  pub tail_pairs : (x : X) (xs : List X) → AllPairs R (x ∷ xs) → AllPairs R xs
  tail_pairs x xs pairs = λ i j d lt within. pairs (suc i) (suc j) d (omega arith) (omega (arith, within))

  pub same_first : (x y : X) (xs ys : List X) → AllPairs R (x ∷ xs) → AllPairs R (y ∷ ys) → Contains (y ∷ ys) x → Contains (x ∷ xs) y → x ≡ y
  same_first x y xs ys first second in_y in_x =
      ⊎_elim
      (λ e. sym e)
      (λ later. ⊎_elim (λ e. e) (λ other. absurd (one_way x y (head_before x xs first y other) (head_before y ys second x later))) (contains_cases x xs y in_x))
      (contains_cases y ys x in_y)

  -- what comes after the first item comes after the other list's first item
  pub rest_in : (x y : X) (xs ys : List X) → x ≡ y → AllPairs R (x ∷ xs) → ((z : X) → Contains (x ∷ xs) z → Contains (y ∷ ys) z) → (z : X) → Contains xs z → Contains ys z
  rest_in x y xs ys same pairs into z there =
      ⊎_elim
      (λ e. let before : R x z = head_before x xs pairs z there in let is : x ≡ z = same ∙ e in let own : R z z = subst (λ w. R w z) is before in absurd (one_way z z own own))
      (λ later. later)
      (contains_cases y ys z (into z (contains_later x xs z there)))

  pub one_list : (xs ys : List X) → AllPairs R xs → AllPairs R ys → ((z : X) → Contains xs z → Contains ys z) → ((z : X) → Contains ys z → Contains xs z) → xs ≡ ys
  one_list [] [] first second into back = refl
  one_list [] (y ∷ ys) first second into back = let at = back y (zero, omega arith, refl) in absurd (omega (arith, at.1))
  one_list (x ∷ xs) [] first second into back = let at = into x (zero, omega arith, refl) in absurd (omega (arith, at.1))
  one_list (x ∷ xs) (y ∷ ys) first second into back =
      let same : x ≡ y = same_first x y xs ys first second (into x (zero, omega arith, refl)) (back y (zero, omega arith, refl)) in
      let rest : xs ≡ ys =
      one_list xs ys (tail_pairs x xs first) (tail_pairs y ys second)
      (rest_in x y xs ys same first into) (rest_in y x ys xs (sym same) second back) in
      λ i. same i ∷ rest i

-- of two lists of numbers only one is before the other
pub less_one_way : (f g : List ℕ) → slice_cmp nat_cmp f g ≡ Less → slice_cmp nat_cmp g f ≡ Less → ⊥
less_one_way f g first second =
    let turned : slice_cmp nat_cmp f g ≡ ordering_reverse (slice_cmp nat_cmp g f) = nat_list_cmp_total.antisymm f g in
    let other : slice_cmp nat_cmp f g ≡ Greater = turned ∙ ap ordering_reverse second in
    let both : Less ≡ Greater = sym first ∙ other in
    cc

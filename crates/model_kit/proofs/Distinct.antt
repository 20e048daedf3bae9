-- What it means that the entries of a list are distinct, in both directions.
use Rattle.std.proofs.Common.{◌≡◌, ℕ, ◌<◌, zero, suc, Bool, true, false, List, [], ◌∷◌, length, get_or, refl, sym, ◌∙◌, arith}
use Rattle.std.specs.Prelude.{not, AllPairs, All, IsTrue}
use Rattle.std.specs.Bool.{Decides}
use Rattle.std.specs.List.{list_any, list_all}
use Rattle.std.specs.Cmp.{first_so, second_so}
use Rattle.std.proofs.lemmas.Bool.{true≢false, and_parts, and_from, not-true, not_from_false, false_from_ne_true}
use Rattle.std.proofs.lemmas.Bool.Decides.{Decides-by_and}
use Rattle.std.proofs.lemmas.List.Folds.{list_any_at, list_any_none}
use Rattle.model_kit.specs.Names.{are_distinct, are_entries}

module _ {X : Type 0} (same : X → X → Bool) (R : X → X → Type 0) (decides : (a b : X) → Decides (same a b) (R a b)) where
  none_later : (x : X) (xs : List X) → list_any (same x) xs ≡ false → (j : ℕ) (d : X) → j < length xs → ¬ R x (get_or xs j d)
  none_later x xs none j d lt r = true≢false (sym (list_any_at (same x) xs j d lt ((decides x (get_or xs j d)).1 r)) ∙ none)

  pub apart_from_are_distinct : (xs : List X) → are_distinct same xs ≡ true → AllPairs (λ a b. ¬ R a b) xs
  apart_from_are_distinct [] e i j d lt within = absurd (omega arith)
  apart_from_are_distinct (x ∷ xs) e zero zero d lt within = absurd (omega arith)
  apart_from_are_distinct (x ∷ xs) e zero (suc j) d lt within =
      none_later x xs (not-true (list_any (same x) xs) (first_so (not (list_any (same x) xs)) (are_distinct same xs) e)) j d (omega arith)
  apart_from_are_distinct (x ∷ xs) e (suc i) zero d lt within = absurd (omega arith)
  apart_from_are_distinct (x ∷ xs) e (suc i) (suc j) d lt within =
      apart_from_are_distinct xs (second_so (not (list_any (same x) xs)) (are_distinct same xs) e) i j d (omega arith) (omega arith)

  pub are_distinct_from_apart : (xs : List X) → AllPairs (λ a b. ¬ R a b) xs → are_distinct same xs ≡ true
  are_distinct_from_apart [] apart = refl
  are_distinct_from_apart (x ∷ xs) apart =
      and_from (not (list_any (same x) xs)) (are_distinct same xs)
      (not_from_false (list_any (same x) xs) (list_any_none (same x) xs (λ j d lt. false_from_ne_true (same x (get_or xs j d)) (λ e. apart zero (suc j) d (omega arith) (omega arith) ((decides x (get_or xs j d)).0 e)))))
      (are_distinct_from_apart xs (λ i j d lt within. apart (suc i) (suc j) d (omega arith) (omega arith)))

pub all_decides : {X : Type 0} (p : X → Bool) (P : X → Type 0) → ((x : X) → Decides (p x) (P x)) → (xs : List X) → Decides (list_all p xs) (All P xs)
all_decides p P each = Decides-by_and p P (list_all p) each refl (λ _ _. refl)

-- each entry passes the test, and no two are the same
pub record ListFacts {X : Type 0} (passes : X → Bool) (R : X → X → Type 0) (xs : List X) : Type 0 where
  pub fit : All (λ x. IsTrue (passes x)) xs
  pub apart : AllPairs (λ x y. ¬ R x y) xs

pub list_facts : {X : Type 0} (passes : X → Bool) (same : X → X → Bool) (R : X → X → Type 0) → ((x y : X) → Decides (same x y) (R x y)) → (xs : List X) → are_entries passes same xs ≡ true → ListFacts passes R xs
list_facts passes same R decides xs e =
    let parts = and_parts (list_all passes xs) (are_distinct same xs) e in
    record { fit = (all_decides passes (λ x. IsTrue (passes x)) (λ x. (λ h. h, λ h. h)) xs).0 parts.0; apart = apart_from_are_distinct same R decides xs parts.1 }

pub list_sound : {X : Type 0} (passes : X → Bool) (same : X → X → Bool) (R : X → X → Type 0) → ((x y : X) → Decides (same x y) (R x y)) → (xs : List X) → ListFacts passes R xs → are_entries passes same xs ≡ true
list_sound passes same R decides xs facts =
    and_from (list_all passes xs) (are_distinct same xs) ((all_decides passes (λ x. IsTrue (passes x)) (λ x. (λ h. h, λ h. h)) xs).1 facts.fit) (are_distinct_from_apart same R decides xs facts.apart)

-- The place of a difference, in a loop over the differences.
use Rattle.std.proofs.Common.{◌≡◌, ℕ, ◌+◌, Bool, true, false, cond, Option, None, Some, List, drop, refl, sym, ap, ◌∙◌}
use Rattle.std.specs.Prelude.{slice_get}
use Rattle.std.specs.Option.{option_map, option_map_or}
use Rattle.std.specs.FinSet as set
use Rattle.std.specs.Ordering.{nat_cmp}
use Rattle.mre_base.proofs.Loops.{drop_item}
use Rattle.model_kit.specs.Places.{Place, same_place}
use Rattle.model_kit.specs.Differences.{number_from}
use Rattle.model_kit.proofs.NumberLemmas.{number_next, told_is}
use Rattle.feature_diff.specs.declared.difference.Difference.{Difference}
use Rattle.feature_diff.specs.Differing.{place_of, places_of}
use Rattle.feature_diff.specs.Blending.{is_told_at}

module _ (ds : List Difference) (p : Place) (i : ℕ) (d : Difference) (at : slice_get ds i ≡ Some d) (answer : Option ℕ)
    (before : number_from i (places_of (drop i ds)) p ≡ answer) (b : Bool) (is : b ≡ same_place (place_of d) p) where
  split : cond b (Some i) (number_from (i + 1) (places_of (drop (i + 1) ds)) p) ≡ answer
  split =
      ap (λ c. cond c (Some i) (number_from (i + 1) (places_of (drop (i + 1) ds)) p)) is
      ∙ ap (λ rest. number_from i (places_of rest) p) (sym (drop_item ds i d at))
      ∙ before

  pub at_here : b ≡ true → Some i ≡ answer
  at_here hit = ap (λ c. cond c (Some i) (number_from (i + 1) (places_of (drop (i + 1) ds)) p)) (sym hit) ∙ split

  pub at_later : b ≡ false → number_from (i + 1) (places_of (drop (i + 1) ds)) p ≡ answer
  at_later miss = ap (λ c. cond c (Some i) (number_from (i + 1) (places_of (drop (i + 1) ds)) p)) (sym miss) ∙ split

-- whether a place is told, by the place of its difference
module _ (ds : List Difference) (told : set.FinSet nat_cmp) (p : Place) (o : Option ℕ) (is : o ≡ number_from 0 (places_of ds) p) where
  by_place : option_map_or (λ n. set.contains told (n + 1)) o false ≡ is_told_at ds told p
  by_place =
      mapped o
      ∙ ap (λ q. option_map_or (set.contains told) q false) (ap (option_map (λ n. n + 1)) is ∙ sym (number_next 0 (places_of ds) p))
      ∙ sym (told_is 1 (places_of ds) (set.contains told) p)
    where
      mapped : (q : Option ℕ) → option_map_or (λ n. set.contains told (n + 1)) q false ≡ option_map_or (set.contains told) (option_map (λ n. n + 1) q) false
      mapped None = refl
      mapped (Some n) = refl

  pub told_there : (n : ℕ) → o ≡ Some n → set.contains told (n + 1) ≡ is_told_at ds told p
  told_there n here = ap (λ q. option_map_or (λ m. set.contains told (m + 1)) q false) (sym here) ∙ by_place

  pub told_nowhere : o ≡ None → false ≡ is_told_at ds told p
  told_nowhere here = ap (λ q. option_map_or (λ m. set.contains told (m + 1)) q false) (sym here) ∙ by_place

-- A state in a list of states, as the program compares them.
use Rattle.std.proofs.Common.{◌≡◌, ℕ, Bool, true, false, List, Some, Contains, slice_get, get_or, position, refl, ap, sym, ◌∙◌}
use Rattle.std.proofs.lemmas.Bool.{false≢true}
use Rattle.std.specs.List.{list_any}
use Rattle.std.proofs.lemmas.Map.Views.{list_any-from_Contains, Contains-from_any}
use Rattle.std.proofs.lemmas.List.Quantifiers.{position-Some}
use Rattle.std.proofs.lemmas.Option.{slice_get-get_or}
use Rattle.mre_base.specs.Sets.{BitSet, is_same_bit_set}
use Rattle.mre_base.specs.SameSets.{same_from_is_same_bit_set, is_same_bit_set-equiv}

pub slice_get-position : (states : List BitSet) (state : BitSet) (place : ℕ) → position (is_same_bit_set state) states ≡ Some place → slice_get states place ≡ Some state
slice_get-position states state place h =
    let found = position-Some (is_same_bit_set state) states place state h in
    slice_get-get_or states place state found.0 ∙ ap Some (sym (same_from_is_same_bit_set state (get_or states place state) found.1))

pub absent : (states : List BitSet) (state : BitSet) → list_any (is_same_bit_set state) states ≡ false → ¬ Contains states state
absent states state h there = false≢true (sym h ∙ list_any-from_Contains is_same_bit_set-equiv state states there)

pub list_any-absent : (states : List BitSet) (state : BitSet) → ¬ Contains states state → list_any (is_same_bit_set state) states ≡ false
list_any-absent states state h = by (list_any (is_same_bit_set state) states) (Contains-from_any same_from_is_same_bit_set state states) where
  by : (b : Bool) → (b ≡ true → Contains states state) → b ≡ false
  by true there = absurd (h (there refl))
  by false there = refl

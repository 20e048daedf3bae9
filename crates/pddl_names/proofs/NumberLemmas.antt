-- The number that is found for a name is the number of an entry with the name, and of the only one where names differ.
use Rattle.std.proofs.Common.{◌≡◌, ℕ, ◌+◌, ◌<◌, zero, suc, Bool, true, false, cond, Some, None, Option, List, [], ◌∷◌, length, refl, sym, ap, subst, ◌∙◌, arith, ⊎_elim}
use Rattle.std.specs.Prelude.{◌≢◌, AllPairs, slice_get}
use Rattle.std.specs.List.{position_from}
use Rattle.std.specs.Option.{option_map}
use Rattle.std.specs.Str.{bytes_eq}
use Rattle.std.proofs.lemmas.Bool.{true≢false, cases_lt}
use Rattle.std.proofs.lemmas.Option.{slice_get_within, get_or_from_slice_get}
use Rattle.mre_base.proofs.Options.{same_some}
use Rattle.model_kit.proofs.Alike.{same_numbers-decides}
use Rattle.pddl_names.specs.Numbers.{IsNumberOf, IsUndeclared, number_of}

-- the entry of a number
pub named_entry : {X : Type 0} (name_of : X → List ℕ) (name : List ℕ) (o : Option X) → option_map name_of o ≡ Some name → (x : X) × (o ≡ Some x) × (name_of x ≡ name)
named_entry name_of name None e = absurd (cc)
named_entry name_of name (Some x) e = (x, refl, same_some (name_of x) name e)

module _ {X : Type 0} (name_of : X → List ℕ) (name : List ℕ) where
  -- what is known of the number that is found in entries that count from a number
  record Found (entries : List X) (from number : ℕ) : Type 0 where
    place : ℕ
    is : number ≡ from + place
    at : IsNumberOf name_of entries name place
    within : place < length entries

  abbrev place_from : ℕ → List X → Option ℕ
  place_from from entries = position_from (λ entry. bytes_eq (name_of entry) name) from entries

  found_by : (x : X) (xs : List X) (from number : ℕ) → (place_from (from + 1) xs ≡ Some number → Found xs (from + 1) number)
      → (b : Bool) → bytes_eq (name_of x) name ≡ b → cond b (Some from) (place_from (from + 1) xs) ≡ Some number → Found (x ∷ xs) from number
  found_by x xs from number rest true is here =
      let same : from ≡ number = same_some from number here in
      record { place = 0; is = omega arith; at = ap Some ((same_numbers-decides (name_of x) name).0 is); within = omega arith }
  found_by x xs from number rest false is later =
      let more = rest later in
      record { place = suc more.place; is = omega (arith, more.is); at = more.at; within = omega (arith, more.within) }

  found : (entries : List X) (from number : ℕ) → place_from from entries ≡ Some number → Found entries from number
  found [] from number e = absurd (cc)
  found (x ∷ xs) from number e = found_by x xs from number (found xs (from + 1) number) (bytes_eq (name_of x) name) refl e

  missing_by : (x : X) (xs : List X) (from : ℕ) → (place_from (from + 1) xs ≡ None → IsUndeclared name_of xs name)
      → (b : Bool) → bytes_eq (name_of x) name ≡ b → cond b (Some from) (place_from (from + 1) xs) ≡ None → IsUndeclared name_of (x ∷ xs) name
  missing_by x xs from rest true is here other its = cc
  missing_by x xs from rest false is later zero its = true≢false (sym ((same_numbers-decides (name_of x) name).1 (same_some (name_of x) name its)) ∙ is)
  missing_by x xs from rest false is later (suc other) its = rest later other its

  missing : (entries : List X) (from : ℕ) → place_from from entries ≡ None → IsUndeclared name_of entries name
  missing [] from e zero at = cc
  missing [] from e (suc number) at = cc
  missing (x ∷ xs) from e number at = missing_by x xs from (missing xs (from + 1)) (bytes_eq (name_of x) name) refl e number at

module _ {X : Type 0} (name_of : X → List ℕ) (entries : List X) (name : List ℕ) where
  pub number_is : (number : ℕ) → number_of name_of entries name ≡ Some number → IsNumberOf name_of entries name number
  number_is number e =
      let one = found name_of name entries 0 number e in
      let same : one.place ≡ number = omega (arith, one.is) in
      subst (λ (n : ℕ). IsNumberOf name_of entries name n) same one.at

  pub number_below : (number : ℕ) → number_of name_of entries name ≡ Some number → number < length entries
  number_below number e = let one = found name_of name entries 0 number e in omega (arith, one.is, one.within)

  pub number_none : number_of name_of entries name ≡ None → IsUndeclared name_of entries name
  number_none = missing name_of name entries 0

  module _ (apart : AllPairs (λ x y. name_of x ≢ name_of y) entries) where
    not_before : (one two : ℕ) → IsNumberOf name_of entries name one → IsNumberOf name_of entries name two → one < two → ⊥
    not_before one two first second lt =
        let a = named_entry name_of name (slice_get entries one) first in
        let b = named_entry name_of name (slice_get entries two) second in
        apart one two a.0 lt (slice_get_within entries two b.0 b.1)
        (ap name_of (get_or_from_slice_get entries one a.0 a.0 a.1) ∙ a.2 ∙ sym b.2 ∙ ap name_of (sym (get_or_from_slice_get entries two b.0 a.0 b.1)))

    pub one_number : (one two : ℕ) → IsNumberOf name_of entries name one → IsNumberOf name_of entries name two → one ≡ two
    one_number one two first second =
        ⊎_elim (λ lt. absurd (not_before one two first second lt))
        (λ ge. ⊎_elim (λ lt. absurd (not_before two one second first lt)) (λ le. omega arith) (cases_lt two one)) (cases_lt one two)

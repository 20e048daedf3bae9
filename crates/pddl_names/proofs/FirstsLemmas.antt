-- The first entry of a name is at its number.
use Rattle.std.proofs.Common.{◌≡◌, ℕ, suc, Bool, true, false, cond, Some, None, Option, List, [], ◌∷◌, refl, sym, ap, ◌∙◌}
use Rattle.std.specs.Prelude.{slice_get}
use Rattle.std.specs.Option.{option_map, option_and_then}
use Rattle.std.specs.Str.{bytes_eq}
use Rattle.mre_base.specs.declared.text.Text.{Text}
use Rattle.pddl_names.specs.Listings.{first_of}
use Rattle.pddl_names.specs.Numbers.{number_of}
use Rattle.pddl_names.proofs.PlaceLemmas.{position_shift}

module _ {X : Type 0} where
  abbrev pub named : Text × X → List ℕ
  named entry = entry.0

  -- what the entry with a number has beside its name
  abbrev pub behind : List (Text × X) → Option ℕ → Option X
  behind entries o = option_and_then (λ number. option_map (λ (e : Text × X). e.1) (slice_get entries number)) o

  shifted : (e : Text × X) (entries : List (Text × X)) (o : Option ℕ) → behind (e ∷ entries) (option_map suc o) ≡ behind entries o
  shifted e entries None = refl
  shifted e entries (Some number) = refl

  first_by : (e : Text × X) (entries : List (Text × X)) (name : Text) (b : Bool) → first_of entries name ≡ behind entries (number_of named entries name)
      → cond b (Some e.1) (first_of entries name) ≡ behind (e ∷ entries) (cond b (Some 0) (option_map suc (number_of named entries name)))
  first_by e entries name true later = refl
  first_by e entries name false later = later ∙ sym (shifted e entries (number_of named entries name))

  pub first_numbered : (entries : List (Text × X)) (name : Text) → first_of entries name ≡ behind entries (number_of named entries name)
  first_numbered [] name = refl
  first_numbered (e ∷ entries) name =
      first_by e entries name (bytes_eq e.0 name) (first_numbered entries name)
      ∙ ap (λ o. behind (e ∷ entries) (cond (bytes_eq e.0 name) (Some 0) o)) (sym (position_shift (λ (f : Text × X). bytes_eq f.0 name) 0 entries))

  pub first_none : (entries : List (Text × X)) (name : Text) → number_of named entries name ≡ None → first_of entries name ≡ None
  first_none entries name none = first_numbered entries name ∙ ap (behind entries) none

  pub first_some : (entries : List (Text × X)) (name : Text) (number : ℕ) (e : Text × X) → number_of named entries name ≡ Some number → slice_get entries number ≡ Some e → first_of entries name ≡ Some e.1
  first_some entries name number e some at = first_numbered entries name ∙ ap (behind entries) some ∙ ap (option_map (λ (f : Text × X). f.1)) at

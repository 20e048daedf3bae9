-- A look-up by the bytes of a name.
use Rattle.std.proofs.Common.{◌≡◌, ℕ, Bool, true, false, cond, List, [], ◌∷◌, ◌++◌, Some, None, refl, sym, ap, ◌∙◌}
use Rattle.std.proofs.lemmas.Map.Text.{is_eq-slice_cmp}
use Rattle.std.specs.Ordering.{nat_cmp, eq_by_cmp}
use Rattle.std.specs.Option.{option_or}
use Rattle.std.specs.Cmp.Lexicographic.{slice_cmp, nat_list_cmp_total}
use Rattle.std.specs.FinMap.{get, from_entries, get-from_entries}
use Rattle.std.specs.Str.{bytes_eq}
use Rattle.mre_outside.specs.Shelves.{first_under}

-- names and contents
abbrev Entries : Type 0
Entries = List (List ℕ × List ℕ)

module _ (name key value : List ℕ) (rest entries : Entries) (first : entries ≡ (key, value) ∷ rest)
    (read : List ℕ) (is_key : read ≡ key) where
  first_of : (b : Bool) → bytes_eq name read ≡ b → first_under entries name ≡ cond b (Some value) (first_under rest name)
  first_of b tested =
      ap (λ es. first_under es name) first
      ∙ ap (λ same. cond same (Some value) (first_under rest name))
      (is_eq-slice_cmp name key ∙ sym (ap (bytes_eq name) is_key) ∙ tested)

  -- an entry of this name is found
  pub find_here : bytes_eq name read ≡ true → first_under entries name ≡ Some value
  find_here same = first_of true same

  -- an entry of another name is passed over
  pub find_later : bytes_eq name read ≡ false → first_under entries name ≡ first_under rest name
  find_later other = first_of false other

first_under-append : (puts given : Entries) (name : List ℕ) → first_under (puts ++ given) name ≡ option_or (first_under puts name) (first_under given name)
first_under-append [] given name = refl
first_under-append (put ∷ puts) given name =
    elim (eq_by_cmp (slice_cmp nat_cmp) name put.0)
    as (λ b. cond b (Some put.1) (first_under (puts ++ given) name) ≡ option_or (cond b (Some put.1) (first_under puts name)) (first_under given name)) [
      | true ↦ refl
      | false ↦ first_under-append puts given name
    ]

held_under : (puts given : Entries) (name : List ℕ) → get (from_entries {R = slice_cmp nat_cmp} (puts ++ given)) name ≡ option_or (first_under puts name) (first_under given name)
held_under puts given name =
    get-from_entries nat_list_cmp_total (puts ++ given) name ∙ first_under-append puts given name

-- a shelf holds the last put under a name
pub get_put : (puts given : Entries) (name bytes : List ℕ) → Some bytes ≡ first_under puts name → Some bytes ≡ get (from_entries {R = slice_cmp nat_cmp} (puts ++ given)) name
get_put puts given name bytes put =
    sym (held_under puts given name ∙ ap (λ found. option_or found (first_under given name)) (sym put))

-- where nothing was put under a name, a shelf holds what it was given
pub get_given : (puts given : Entries) (name : List ℕ) → None ≡ first_under puts name → get (from_entries {R = slice_cmp nat_cmp} (puts ++ given)) name ≡ first_under given name
get_given puts given name none =
    held_under puts given name ∙ ap (λ found. option_or found (first_under given name)) (sym none)

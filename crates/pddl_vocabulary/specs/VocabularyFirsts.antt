-- Lists of entries with names, in which a name may be repeated.
use Rattle.std.specs.Prelude.{ℕ, ◌==◌, not, Bool, false, List, Option, None, Some}
use Rattle.std.specs.List.{list_any}
use Rattle.std.specs.Str.{bytes_eq}
use Rattle.mre_base.specs.declared.text.Text.{Text}
use Rattle.pddl_names.specs.Numbers.{entry_name}

-- two entries have the same name
abbrev pub same_by : {X : Type 0} → (X → List ℕ) → X → X → Bool
same_by name_of x y = bytes_eq (name_of x) (name_of y)

-- the number is this one
abbrev pub is_place : Option ℕ → ℕ → Bool
is_place None place = false
is_place (Some number) place = number == place

-- none of the entries has the name of this one
abbrev pub is_no_entry : List (Text × ℕ) → Text × ℕ → Bool
is_no_entry entries e = not (list_any (λ f. bytes_eq (entry_name f) (entry_name e)) entries)

-- A table of names is filled from the last entry to the first, so the first entry of a name is the one that stays.
use Rattle.std.proofs.Common.{◌≡◌, ℕ, ◌+◌, ◌-◌, ◌<◌, ◌≤◌, Some, None, Option, List, length, drop, sym, ap, ◌∙◌, arith}
use Rattle.std.specs.Prelude.{slice_get, if◌then◌else◌}
use Rattle.std.specs.List.{position_from}
use Rattle.std.specs.Str.{bytes_eq}
use Rattle.std.proofs.lemmas.List.{drop_all}
use Rattle.mre_base.proofs.Loops.{drop_item}
use Rattle.pddl_names.specs.declared.names.NameTable.{NameTable}
use Rattle.pddl_names.specs.Numbers.{number_in, PutsNumber}

module _ {X : Type 0} (name_of : X → List ℕ) (entries : List X) where
  -- the table has the numbers of the entries from this place on
  abbrev pub IsTableFrom : ℕ → NameTable → Type 0
  IsTableFrom place table = (name : List ℕ) → number_in table name ≡ position_from (λ entry. bytes_eq (name_of entry) name) place (drop place entries)

  pub table_none : (place : ℕ) (table : NameTable) → length entries ≤ place → ((name : List ℕ) → number_in table name ≡ None) → IsTableFrom place table
  table_none place table all none name = none name ∙ ap (position_from (λ entry. bytes_eq (name_of entry) name) place) (sym (drop_all place entries all))

  module _ (place : ℕ) (entry : X) (positive : 0 < place) (at : slice_get entries (place - 1) ≡ Some entry) where
    put_step : (name : List ℕ) → position_from (λ e. bytes_eq (name_of e) name) (place - 1) (drop (place - 1) entries)
        ≡ (if bytes_eq (name_of entry) name then Some (place - 1) else position_from (λ e. bytes_eq (name_of e) name) place (drop place entries))
    put_step name =
        let back : place - 1 + 1 ≡ place = omega arith in
        ap (position_from (λ e. bytes_eq (name_of e) name) (place - 1)) (drop_item entries (place - 1) entry at)
        ∙ ap (λ k. if bytes_eq (name_of entry) name then Some (place - 1) else position_from (λ e. bytes_eq (name_of e) name) k (drop k entries)) back

    pub table_put : (old new : NameTable) → IsTableFrom place old → PutsNumber old new (name_of entry) (place - 1) → IsTableFrom (place - 1) new
    table_put old new before puts name =
        puts name ∙ ap (λ (o : Option ℕ). if bytes_eq (name_of entry) name then Some (place - 1) else o) (before name) ∙ sym (put_step name)

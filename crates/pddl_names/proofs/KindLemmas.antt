-- A table of first places is filled from the last word to the first.
use Rattle.std.proofs.Common.{◌≡◌, ℕ, ◌+◌, ◌-◌, ◌<◌, ◌&&◌, true, false, cond, Some, Option, List, drop, sym, ap, ◌∙◌, arith}
use Rattle.std.specs.Prelude.{slice_get}
use Rattle.std.specs.List.{position_from}
use Rattle.std.specs.Str.{bytes_eq}
use Rattle.mre_base.specs.declared.text.Text.{Text}
use Rattle.mre_base.proofs.Loops.{drop_item}
use Rattle.pddl_names.specs.declared.kind.Kind.{Kind}
use Rattle.pddl_names.specs.declared.names.NameTable.{NameTable}
use Rattle.pddl_names.specs.declared.role.Word.{Word}
use Rattle.pddl_names.specs.Kinds.{is_kind, declares}
use Rattle.pddl_names.specs.Numbers.{number_in, PutsNumber}

module _ (k : Kind) (words : List Word) where
  -- the table has the first places from this place on
  abbrev pub ArePlacesFrom : ℕ → NameTable → Type 0
  ArePlacesFrom place table = (name : Text) → number_in table name ≡ position_from (declares k name) place (drop place words)

  module _ (place : ℕ) (w : Word) (positive : 0 < place) (at : slice_get words (place - 1) ≡ Some w) where
    step : (name : Text) → position_from (declares k name) (place - 1) (drop (place - 1) words)
        ≡ cond (declares k name w) (Some (place - 1)) (position_from (declares k name) place (drop place words))
    step name =
        let back : place - 1 + 1 ≡ place = omega arith in
        ap (position_from (declares k name) (place - 1)) (drop_item words (place - 1) w at)
        ∙ ap (λ j. cond (declares k name w) (Some (place - 1)) (position_from (declares k name) j (drop j words))) back

    pub kind_put : (old new : NameTable) → ArePlacesFrom place old → is_kind k w.role ≡ true → PutsNumber old new w.text (place - 1) → ArePlacesFrom (place - 1) new
    kind_put old new before is puts name =
        puts name ∙ ap (λ (o : Option ℕ). cond (bytes_eq w.text name) (Some (place - 1)) o) (before name)
        ∙ ap (λ b. cond (b && bytes_eq w.text name) (Some (place - 1)) (position_from (declares k name) place (drop place words))) (sym is)
        ∙ sym (step name)

    pub kind_passed : (table : NameTable) → ArePlacesFrom place table → is_kind k w.role ≡ false → ArePlacesFrom (place - 1) table
    kind_passed table before is name =
        before name
        ∙ ap (λ b. cond (b && bytes_eq w.text name) (Some (place - 1)) (position_from (declares k name) place (drop place words))) (sym is)
        ∙ sym (step name)

-- The places of types are found from the last word to the first.
use Rattle.std.proofs.Common.{◌≡◌, ℕ, ◌-◌, ◌<◌, ◌≤◌, Option, List, length, ap, ◌∙◌, arith}
use Rattle.std.specs.Prelude.{codes, slice_get, slice_set, IfSome}
use Rattle.std.specs.Option.{option_map_or}
use Rattle.mre_base.proofs.Listed.{item_at}
use Rattle.mre_base.proofs.Options.{of_some}
use Rattle.std.proofs.lemmas.Option.{slice_get_past}
use Rattle.pddl_names.specs.declared.role.Word.{Word}
use Rattle.pddl_names.specs.Groups.{text_at}
use Rattle.pddl_names.specs.Listings.{type_behind, type_at}
use Rattle.pddl_names.proofs.ScanLemmas.{ScannedFrom, scan_start, scan_more}

module _ (words : List Word) where
  -- what is known before the words from a place on are passed
  abbrev pub PlacesFrom : ℕ → ℕ → List ℕ → Type 0
  PlacesFrom from behind places = ScannedFrom (text_at words) type_behind words from behind places

  pub places_none : (places : List ℕ) → length places ≡ length words → PlacesFrom (length words) (length words) places
  places_none places count =
      scan_start (text_at words) type_behind words (length words) places count
      (ap (λ (o : Option Word). option_map_or (λ w. w.text) o (codes "object")) (slice_get_past words (length words) (omega arith)))

  pub places_more : (from behind next : ℕ) (places : List ℕ) → PlacesFrom from behind places → 0 < from → from ≤ length words
      → IfSome (slice_get words (from - 1)) (λ w. text_at words next ≡ type_at w.role w.text (text_at words behind)) → PlacesFrom (from - 1) next (slice_set places (from - 1) behind)
  places_more from behind next places known positive within said =
      let item = item_at words (from - 1) (omega arith) in
      let told = of_some (slice_get words (from - 1)) item.0 (λ w. text_at words next ≡ type_at w.role w.text (text_at words behind)) item.1 said in
      scan_more (text_at words) type_behind words from behind next places known positive within item.0 item.1 (told ∙ ap (type_at item.0.role item.0.text) known.behind_is)

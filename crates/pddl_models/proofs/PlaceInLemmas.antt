-- The place of a name among names, and the entry there.
use Rattle.std.proofs.Common.{◌≡◌, ℕ, ◌+◌, ◌<◌, ◌||◌, suc, zero, Bool, true, false, cond, Some, None, Option, List, [], ◌∷◌, length, map, refl, sym, ap, ◌∙◌, arith}
use Rattle.std.specs.Prelude.{not, filter, slice_get, unwrap_or}
use Rattle.std.specs.List.{list_any, position_from}
use Rattle.std.specs.Option.{option_map}
use Rattle.std.specs.Str.{bytes_eq}
use Rattle.std.proofs.lemmas.Bool.{true≢false}
use Rattle.mre_base.specs.declared.text.Text.{Text}
use Rattle.mre_base.proofs.Options.{same_some}
use Rattle.model_kit.proofs.Alike.{same_numbers-decides}
use Rattle.pddl_names.specs.Listings.{first_of}
use Rattle.pddl_vocabulary.specs.Values.{firsts, place_in}
use Rattle.pddl_names.proofs.PlaceLemmas.{position_shift}

pub name_self : (t : Text) → bytes_eq t t ≡ true
name_self t = (same_numbers-decides t t).1 refl

pub name_same : (t u : Text) → bytes_eq t u ≡ true → t ≡ u
name_same t u is = (same_numbers-decides t u).0 is

-- ---- names

-- one of the names is this
abbrev pub is_among : List Text → Text → Bool
is_among names name = list_any (λ other. bytes_eq other name) names

abbrev position : Text → ℕ → List Text → Option ℕ
position name from names = position_from (λ other. bytes_eq other name) from names

position_by : (m name : Text) (names : List Text) → (is_among names name ≡ true → (n : ℕ) × (position name 0 names ≡ Some n)) → (b : Bool) → bytes_eq m name ≡ b
    → (b || is_among names name) ≡ true → (n : ℕ) × (cond b (Some 0) (position name 1 names) ≡ Some n)
position_by m name names rest true is among = (0, refl)
position_by m name names rest false is among =
    let at = rest among in (suc at.0, position_shift (λ other. bytes_eq other name) 0 names ∙ ap (option_map suc) at.1)

position_some : (names : List Text) (name : Text) → is_among names name ≡ true → (n : ℕ) × (position name 0 names ≡ Some n)
position_some [] name among = absurd (true≢false (sym among))
position_some (m ∷ names) name among = position_by m name names (position_some names name) (bytes_eq m name) refl among

position_none : (names : List Text) (name : Text) (from : ℕ) → is_among names name ≡ false → position name from names ≡ None
position_none [] name from none = refl
position_none (m ∷ names) name from none = none_by m name names from (position_none names name (from + 1)) (bytes_eq m name) none
  where
    none_by : (m name : Text) (names : List Text) (from : ℕ) → (is_among names name ≡ false → position name (from + 1) names ≡ None) → (b : Bool)
        → (b || is_among names name) ≡ false → cond b (Some from) (position name (from + 1) names) ≡ None
    none_by m name names from rest true none = absurd (true≢false none)
    none_by m name names from rest false none = rest none

pub place_here : (m : Text) (names : List Text) (name : Text) → bytes_eq m name ≡ true → place_in (m ∷ names) name ≡ 0
place_here m names name is = ap (λ b. unwrap_or (cond b (Some 0) (position name 1 names)) 0) is

pub place_later : (m : Text) (names : List Text) (name : Text) → bytes_eq m name ≡ false → is_among names name ≡ true → place_in (m ∷ names) name ≡ suc (place_in names name)
place_later m names name other among =
    let at = position_some names name among in
    ap (λ b. unwrap_or (cond b (Some 0) (position name 1 names)) 0) other
    ∙ ap (λ o. unwrap_or o 0) (position_shift (λ o. bytes_eq o name) 0 names ∙ ap (option_map suc) at.1)
    ∙ sym (ap (λ o. suc (unwrap_or o 0)) at.1)

pub place_none : (names : List Text) (name : Text) → is_among names name ≡ false → place_in names name ≡ 0
place_none names name none = ap (λ o. unwrap_or o 0) (position_none names name 0 none)

-- the name is at its place
abbrev pub IsAt : List Text → Text → Type 0
IsAt names name = slice_get names (place_in names name) ≡ Some name

at_by : (m : Text) (names : List Text) (name : Text) → (is_among names name ≡ true → IsAt names name) → (b : Bool) → bytes_eq m name ≡ b → (b || is_among names name) ≡ true → IsAt (m ∷ names) name
at_by m names name rest true is among = ap (slice_get (m ∷ names)) (place_here m names name is) ∙ ap (λ (t : Text). Some t) (name_same m name is)
at_by m names name rest false is among = ap (slice_get (m ∷ names)) (place_later m names name is among) ∙ rest among

pub at_place : (names : List Text) (name : Text) → is_among names name ≡ true → IsAt names name
at_place [] name among = absurd (true≢false (sym among))
at_place (m ∷ names) name among = at_by m names name (at_place names name) (bytes_eq m name) refl among

-- ---- entries

module _ {X : Type 0} where
  abbrev pub name_at : Text × X → Text
  name_at entry = entry.0

  first_among-by : (e : Text × X) (entries : List (Text × X)) (name : Text) (x : X) → (first_of entries name ≡ Some x → is_among (map name_at entries) name ≡ true)
      → (b : Bool) → cond b (Some e.1) (first_of entries name) ≡ Some x → (b || is_among (map name_at entries) name) ≡ true
  first_among-by e entries name x rest true at = refl
  first_among-by e entries name x rest false at = rest at

  pub first_among : (entries : List (Text × X)) (name : Text) (x : X) → first_of entries name ≡ Some x → is_among (map name_at entries) name ≡ true
  first_among [] name x at = absurd (cc)
  first_among (e ∷ entries) name x at = first_among-by e entries name x (first_among entries name x) (bytes_eq e.0 name) at

  first_none-by : (e : Text × X) (entries : List (Text × X)) (name : Text) → (is_among (map name_at entries) name ≡ false → first_of entries name ≡ None)
      → (b : Bool) → (b || is_among (map name_at entries) name) ≡ false → cond b (Some e.1) (first_of entries name) ≡ None
  first_none-by e entries name rest true none = absurd (true≢false none)
  first_none-by e entries name rest false none = rest none

  pub first_none : (entries : List (Text × X)) (name : Text) → is_among (map name_at entries) name ≡ false → first_of entries name ≡ None
  first_none [] name none = refl
  first_none (e ∷ entries) name none = first_none-by e entries name (first_none entries name) (bytes_eq e.0 name) none

  first_at-by : (e : Text × X) (entries : List (Text × X)) (name : Text) (x : X)
      → (first_of entries name ≡ Some x → slice_get entries (place_in (map name_at entries) name) ≡ Some (name, x))
      → (b : Bool) → bytes_eq e.0 name ≡ b → cond b (Some e.1) (first_of entries name) ≡ Some x
      → slice_get (e ∷ entries) (place_in (e.0 ∷ map name_at entries) name) ≡ Some (name, x)
  first_at-by e entries name x rest true is at =
      let value : e.1 ≡ x = same_some e.1 x at in
      let key : e.0 ≡ name = name_same e.0 name is in
      ap (slice_get (e ∷ entries)) (place_here e.0 (map name_at entries) name is) ∙ (λ i. Some (key i, value i))
  first_at-by e entries name x rest false is at =
      ap (slice_get (e ∷ entries)) (place_later e.0 (map name_at entries) name is (first_among entries name x at)) ∙ rest at

  -- the first entry of a name is at the place of the name
  pub first_at : (entries : List (Text × X)) (name : Text) (x : X) → first_of entries name ≡ Some x → slice_get entries (place_in (map name_at entries) name) ≡ Some (name, x)
  first_at [] name x at = absurd (cc)
  first_at (e ∷ entries) name x at = first_at-by e entries name x (first_at entries name x) (bytes_eq e.0 name) refl at

  kept_by : (keep : Text × X → Bool) (name : Text) → ((e : Text × X) → bytes_eq e.0 name ≡ true → keep e ≡ true) → (e : Text × X) (entries : List (Text × X))
      → first_of (filter keep entries) name ≡ first_of entries name → (k b : Bool) → keep e ≡ k → bytes_eq e.0 name ≡ b
      → first_of (cond k (e ∷ filter keep entries) (filter keep entries)) name ≡ cond b (Some e.1) (first_of entries name)
  kept_by keep name kept e entries rest true b keeps is = (λ i. cond (is i) (Some e.1) (rest i))
  kept_by keep name kept e entries rest false true keeps is = absurd (true≢false (sym (kept e is) ∙ keeps))
  kept_by keep name kept e entries rest false false keeps is = rest

  -- the first entry of a name is the same where each entry of the name is kept
  pub first_kept : (keep : Text × X → Bool) (name : Text) → ((e : Text × X) → bytes_eq e.0 name ≡ true → keep e ≡ true) → (entries : List (Text × X)) → first_of (filter keep entries) name ≡ first_of entries name
  first_kept keep name kept [] = refl
  first_kept keep name kept (e ∷ entries) = kept_by keep name kept e entries (first_kept keep name kept entries) (keep e) (bytes_eq e.0 name) refl refl

  abbrev same_first : Text × X → Text × X → Bool
  same_first e f = bytes_eq e.0 f.0

  other_name : (e : Text × X) (name : Text) → bytes_eq e.0 name ≡ false → (f : Text × X) → bytes_eq f.0 name ≡ true → not (same_first e f) ≡ true
  other_name e name other f is = by (same_first e f) refl
    where
      by : (b : Bool) → bytes_eq e.0 f.0 ≡ b → not b ≡ true
      by true same = absurd (true≢false (sym (ap (λ (t : Text). bytes_eq t name) (name_same e.0 f.0 same) ∙ is) ∙ other))
      by false same = refl

  first_first-by : (e : Text × X) (entries : List (Text × X)) (name : Text) → first_of (firsts same_first entries) name ≡ first_of entries name → (b : Bool) → bytes_eq e.0 name ≡ b
      → cond b (Some e.1) (first_of (filter (λ f. not (same_first e f)) (firsts same_first entries)) name) ≡ cond b (Some e.1) (first_of entries name)
  first_first-by e entries name rest true is = refl
  first_first-by e entries name rest false is = first_kept (λ f. not (same_first e f)) name (other_name e name is) (firsts same_first entries) ∙ rest

  -- among the first entries of each name are the first of a name
  pub first_first : (entries : List (Text × X)) (name : Text) → first_of (firsts same_first entries) name ≡ first_of entries name
  first_first [] name = refl
  first_first (e ∷ entries) name = first_first-by e entries name (first_first entries name) (bytes_eq e.0 name) refl

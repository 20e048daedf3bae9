-- The type of each group: the place of the word that is the type, or a place past the last word
-- for `object`.
use Rattle.std.specs.Prelude.{ℕ, ◌≡◌, ◌+◌, ◌<◌, List, codes, length, drop, slice_get, slice_index}
use Rattle.std.specs.Option.{option_map_or}
use Rattle.mre_base.specs.declared.text.Text.{Text}
use Rattle.pddl_names.specs.declared.role.Role.{Role}
use Rattle.pddl_names.specs.declared.role.Role.TheVariants as role
use Rattle.pddl_names.specs.declared.role.Word.{Word}
use Rattle.pddl_names.specs.Listings.{type_behind, terms_behind, own_params}

-- the text at a place, and `object` past the last word
abbrev pub text_at : List Word → ℕ → Text
text_at words place = option_map_or (λ (w : Word). w.text) (slice_get words place) (codes "object")

-- from a place on, the places are those of the words' types
abbrev pub AreTypePlacesFrom : List Word → ℕ → List ℕ → Type 0
AreTypePlacesFrom words from places =
    (place : ℕ) → from < place + 1 → place < length words
    → text_at words (slice_index places place) ≡ type_behind (drop (place + 1) words)

-- the place of each word's type
pub record AreTypePlaces (words : List Word) (places : List ℕ) : Type 0 where
  pub count : length places ≡ length words
  pub each : AreTypePlacesFrom words 0 places

-- how many terms follow each word
pub record AreTermCounts (words : List Word) (counts : List ℕ) : Type 0 where
  pub count : length counts ≡ length words
  pub each : (place : ℕ) → 0 < place + 1 → place < length words
      → slice_index counts place ≡ length (terms_behind (drop (place + 1) words))

-- how many parameters there are from a word of this role on, by how many follow it
abbrev pub own_count : Role → ℕ → ℕ
own_count (role.Variable o) behind = behind + 1
own_count role.Dash behind = behind
own_count role.VariableType behind = behind
own_count r behind = 0

-- how many parameters follow each word
pub record AreParamCounts (words : List Word) (counts : List ℕ) : Type 0 where
  pub count : length counts ≡ length words
  pub each : (place : ℕ) → 0 < place + 1 → place < length words
      → slice_index counts place ≡ length (own_params (drop (place + 1) words))

-- Where the words of a text are in its bytes. Positions count from 0.
use Rattle.std.specs.Prelude.{ℕ, ◌+◌, ◌<◌, ◌≤◌, ◌≡◌, List, [], ◌∷◌, length, take, slice_range}
use Rattle.std.specs.List.{flat_map}
use Rattle.std.specs.Str.{str_to_ascii_lowercase}
use Rattle.mre_base.specs.declared.text.Text.{Text}
use Rattle.pddl_text.specs.declared.place.Place.{Place}
use Rattle.pddl_text.specs.declared.plan.PlanLine.{PlanLine}
use Rattle.pddl_text.specs.Places.{past_of}
use Rattle.pddl_text.specs.Tokens.{Token, Word, Open, Close, Stray}

-- the word is the lower case of the bytes at its positions, and has the place of the first of them
pub record IsWordAt (bytes text : List ℕ) (at : Place) (first past : ℕ) : Type 0 where
  pub letters : text ≡ str_to_ascii_lowercase (slice_range bytes first past)
  pub place : at ≡ past_of (take first bytes)

-- a word is in the bytes where its token says
abbrev pub IsTokenIn : List ℕ → Token → Type 0
IsTokenIn bytes (Word text at first past) = IsWordAt bytes text at first past
IsTokenIn bytes (Open at) = Unit {0}
IsTokenIn bytes (Close at) = Unit {0}
IsTokenIn bytes (Stray at) = Unit {0}

-- each token takes at least one byte between these positions, after the tokens before it
abbrev pub SpansAscend : ℕ → ℕ → List Token → Type 0
SpansAscend from to [] = from ≤ to
SpansAscend from to (Word text at first past ∷ tokens) =
    (from ≤ first) × (first < past) × SpansAscend past to tokens
SpansAscend from to (Open at ∷ tokens) = SpansAscend (from + 1) to tokens
SpansAscend from to (Close at ∷ tokens) = SpansAscend (from + 1) to tokens
SpansAscend from to (Stray at ∷ tokens) = SpansAscend (from + 1) to tokens

-- each word is the lower case of a slice of the bytes; the slices start at this position or later,
-- in order
abbrev pub WordsAscend : List ℕ → ℕ → List (Text × Place) → Type 0
WordsAscend bytes from [] = from ≤ length bytes
WordsAscend bytes from ((text, at) ∷ words) =
    (first : ℕ) × (from ≤ first) × (0 < length text)
    × IsWordAt bytes text at first (first + length text)
    × WordsAscend bytes (first + length text) words

-- the words of all lines of a plan, in their order
abbrev pub words_of : List PlanLine → List (Text × Place)
words_of lines = flat_map (λ (line : PlanLine). line.words) lines

-- The tokens of a text: its words and parentheses in order. White space and comments have none; a
-- word is a longest run of word bytes, and is kept in lower case.
use Rattle.std.specs.Prelude.{ℕ, ◌+◌, ◌≡◌, List, [], ◌∷◌, ◌++◌, length, IsTrue}
use Rattle.std.specs.Bool.{IsFalse}
use Rattle.std.specs.Str.{str_to_ascii_lowercase}
use Rattle.pddl_text.specs.declared.place.Place.{Place}
use Rattle.pddl_text.specs.declared.place.Spot.{Spot}
use Rattle.pddl_text.specs.Bytes.{is_white, is_word_byte, is_stray, OnOneLine, AreWordBytes}
use Rattle.pddl_text.specs.Places.{after, after_all}

-- a word has its text, its place, and the positions of its first byte and of the byte past it
pub data Token : Type 0 where
  Word : List ℕ → Place → ℕ → ℕ → Token
  Open : Place → Token
  Close : Place → Token
  -- a byte that no text may have
  Stray : Place → Token

-- no word continues here
abbrev pub EndsWord : List ℕ → Type 0
EndsWord [] = Unit {0}
EndsWord (b ∷ bytes) = IsFalse (is_word_byte b)

-- the line or the text ends here
abbrev pub EndsLine : List ℕ → Type 0
EndsLine [] = Unit {0}
EndsLine (b ∷ bytes) = b ≡ 10

-- the bytes from a spot on have these tokens
pub data HasTokens : Spot → List ℕ → List Token → Type 0 where
  -- at the end of a text there are no more tokens
  end : {s : Spot} → HasTokens s [] []
  -- white space has no token
  white : {s : Spot} {b : ℕ} {rest : List ℕ} {tokens : List Token}
      → IsTrue (is_white b)
      → HasTokens (after s b) rest tokens
      → HasTokens s (b ∷ rest) tokens
  -- a comment, from its `;` to the end of its line, has no token
  comment : {s : Spot} (inside rest : List ℕ) {tokens : List Token}
      → OnOneLine inside → EndsLine rest
      → HasTokens (after_all s (59 ∷ inside)) rest tokens
      → HasTokens s (59 ∷ inside ++ rest) tokens
  -- `(` and `)` are tokens
  opening : {s : Spot} {rest : List ℕ} {tokens : List Token}
      → HasTokens (after s 40) rest tokens
      → HasTokens s (40 ∷ rest) (Open s.place ∷ tokens)
  closing : {s : Spot} {rest : List ℕ} {tokens : List Token}
      → HasTokens (after s 41) rest tokens
      → HasTokens s (41 ∷ rest) (Close s.place ∷ tokens)
  -- a longest run of word bytes is a word
  word : {s : Spot} (b : ℕ) (letters rest : List ℕ) {tokens : List Token}
      → AreWordBytes (b ∷ letters) → EndsWord rest
      → HasTokens (after_all s (b ∷ letters)) rest tokens
      → HasTokens s (b ∷ letters ++ rest)
      (Word (str_to_ascii_lowercase (b ∷ letters)) s.place s.position
      (s.position + length (b ∷ letters))
      ∷ tokens)
  -- any other byte is stray
  stray : {s : Spot} {b : ℕ} {rest : List ℕ} {tokens : List Token}
      → IsTrue (is_stray b)
      → HasTokens (after s b) rest tokens
      → HasTokens s (b ∷ rest) (Stray s.place ∷ tokens)

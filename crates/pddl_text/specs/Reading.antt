-- How a text is read byte by byte, as functions on lists.
use Rattle.std.specs.Prelude.{ℕ, List, [], ◌∷◌, ◌++◌, length, reverse, ◌==◌, nat_lt, Result, Ok}
use Rattle.std.specs.Prelude.{Err, if◌then◌else◌}
use Rattle.std.specs.Char.{to_ascii_lowercase}
use Rattle.std.specs.String.{string_bytes}
use Rattle.pddl_text.specs.declared.bytes.ByteKind.{ByteKind}
use Rattle.pddl_text.specs.declared.bytes.ByteKind.TheVariants.{White, Semicolon, Opening, Closing}
use Rattle.pddl_text.specs.declared.bytes.ByteKind.TheVariants.{Letter, Stray as StrayByte}
use Rattle.pddl_text.specs.declared.fault.TextFault.{TextFault}
use Rattle.pddl_text.specs.declared.fault.TextRule.TheVariants as rule
use Rattle.pddl_text.specs.declared.grove.Frame.{Frame}
use Rattle.pddl_text.specs.declared.grove.Grove.{Grove}
use Rattle.pddl_text.specs.declared.place.Place.{Place}
use Rattle.pddl_text.specs.declared.place.Spot.{Spot}
use Rattle.pddl_text.specs.declared.reading.Mode.{Mode}
use Rattle.pddl_text.specs.declared.reading.Mode.TheVariants as mode
use Rattle.pddl_text.specs.declared.reading.Reader.{Reader}
use Rattle.pddl_text.specs.declared.tree.Forest.{Forest}
use Rattle.pddl_text.specs.declared.tree.Tree.{Tree}
use Rattle.pddl_text.specs.declared.tree.Tree.TheVariants as tree
use Rattle.pddl_text.specs.Bytes.{is_word_byte, kind}
use Rattle.pddl_text.specs.Places.{start, after, past_of}
use Rattle.pddl_text.specs.Tokens.{Token, Word, Open, Close, Stray}
use Rattle.pddl_text.specs.Faults.{fault_at}

-- the state after the bytes so far; in a word, its text so far and where it began
pub data Within : Type 0 where
  Nothing : Within
  Comment : Within
  InWord : List ℕ → Spot → Within

-- a byte outside words and comments, and then the tokens of the rest, from the state after it
abbrev pub tokens_at : ByteKind → Spot → ℕ → (Within → List Token) → List Token
tokens_at White s b next = next Nothing
tokens_at Semicolon s b next = next Comment
tokens_at Opening s b next = Open s.place ∷ next Nothing
tokens_at Closing s b next = Close s.place ∷ next Nothing
tokens_at Letter s b next = next (InWord (to_ascii_lowercase b ∷ []) s)
tokens_at StrayByte s b next = Stray s.place ∷ next Nothing

-- a byte after the letters of a word, which only a word byte continues
abbrev pub tokens_after : List ℕ → Spot → ℕ → Spot → (Within → List Token) → List Token
tokens_after text from b s next =
    if is_word_byte b then next (InWord (text ++ to_ascii_lowercase b ∷ []) from)
    else Word text from.place from.position s.position ∷ tokens_at (kind b) s b next

-- the tokens of the bytes from this spot on
abbrev pub tokens_from : Within → Spot → List ℕ → List Token
tokens_from (InWord text from) s [] = Word text from.place from.position s.position ∷ []
tokens_from within s [] = []
tokens_from Nothing s (b ∷ bytes) =
    tokens_at (kind b) s b (λ next. tokens_from next (after s b) bytes)
tokens_from Comment s (b ∷ bytes) =
    tokens_from (if b == 10 then Nothing else Comment) (after s b) bytes
tokens_from (InWord text from) s (b ∷ bytes) =
    tokens_after text from b s (λ next. tokens_from next (after s b) bytes)

-- the trees of tokens that follow these open lists (the innermost first) and its trees so far
abbrev pub trees_from : List Frame → List Tree → Place → List Token → Result (List Tree) TextFault
trees_from [] trees end [] = Ok trees
trees_from (frame ∷ frames) trees end [] = Err (fault_at end rule.Open)
trees_from frames trees end (Word text at first past ∷ tokens) =
    trees_from frames (trees ++ tree.Word text at first past ∷ []) end tokens
trees_from frames trees end (Open at ∷ tokens) =
    if nat_lt (length frames) 64 then
    trees_from (record { at = at; before = trees } ∷ frames) [] end tokens
    else Err (fault_at at rule.Deep)
trees_from [] trees end (Close at ∷ tokens) = Err (fault_at at rule.Close)
trees_from (frame ∷ frames) trees end (Close at ∷ tokens) =
    trees_from frames (frame.before ++ tree.Items trees frame.at at ∷ []) end tokens
trees_from frames trees end (Stray at ∷ tokens) = Err (fault_at at rule.Byte)

-- what is read after the open lists of a grove
abbrev pub reads : Grove → Place → List Token → Result (List Tree) TextFault
reads grove end tokens = trees_from (reverse grove.frames.items) grove.trees end tokens

-- the state after a reader's bytes so far
abbrev pub within_of : Mode → List ℕ → Within
within_of mode.Between letters = Nothing
within_of mode.Comment letters = Comment
within_of (mode.InWord from) letters = InWord letters from

-- what a reader makes of the rest of its text
abbrev pub left : Reader → Place → Spot → List ℕ → Result (List Tree) TextFault
left reader end s bytes =
    reads reader.grove end
    (tokens_from (within_of reader.mode (string_bytes reader.letters)) s bytes)

-- the forest of these trees, in a text that ends at this place
abbrev pub with_past : Place → Result (List Tree) TextFault → Result Forest TextFault
with_past past (Ok trees) = Ok (record { trees = trees; past = past })
with_past past (Err fault) = Err fault

-- the trees that a whole text is read as
abbrev pub trees_of : List ℕ → Result (List Tree) TextFault
trees_of bytes = trees_from [] [] (past_of bytes) (tokens_from Nothing start bytes)

-- the forest that a whole text is read as
abbrev pub forest_of : List ℕ → Result Forest TextFault
forest_of bytes = with_past (past_of bytes) (trees_of bytes)

-- The lines that the bytes of a plan spell, or the first place where they leave the form.
use Rattle.std.specs.Prelude.{ℕ, ◌+◌, ◌<◌, ◌≡◌, Bool, true, List, [], ◌∷◌, ◌++◌, length, ◌==◌, ◌&&◌}
use Rattle.std.specs.Prelude.{◌||◌, IsTrue, if◌then◌else◌}
use Rattle.std.specs.Bool.{IsFalse}
use Rattle.std.specs.List.{slice_split}
use Rattle.std.specs.Str.{str_to_ascii_lowercase}
use Rattle.mre_base.specs.declared.text.Text.{Text}
use Rattle.pddl_text.specs.declared.fault.TextFault.{TextFault}
use Rattle.pddl_text.specs.declared.fault.TextRule.TheVariants as rule
use Rattle.pddl_text.specs.declared.place.Place.{Place}
use Rattle.pddl_text.specs.declared.plan.PlanLine.{PlanLine}
use Rattle.pddl_text.specs.Bytes.{is_blank, is_space, is_name_start, AreWordBytes, AreBlank}
use Rattle.pddl_text.specs.Faults.{fault_at}
use Rattle.pddl_text.specs.Tokens.{EndsWord}

-- a text is cut into rows at its line feeds
abbrev pub rows_of : List ℕ → List (List ℕ)
rows_of bytes = slice_split (λ b. b == 10) bytes

-- nothing but blanks up to a `;` or to the end
abbrev pub is_empty_row : List ℕ → Bool
is_empty_row [] = true
is_empty_row (b ∷ row) = b == 59 || (is_blank b && is_empty_row row)

-- what is kept of a row: its bytes up to where only blanks are left before a `;` or the end
abbrev pub kept : List ℕ → List ℕ
kept [] = []
kept (b ∷ row) = if is_empty_row (b ∷ row) then [] else b ∷ kept row

-- words, each with the place of its first byte
abbrev pub Words : Type 0
Words = List (Text × Place)

-- from this column of a line on, the bytes are these names
pub data AreNames : ℕ → ℕ → List ℕ → Words → Type 0 where
  none : {line column : ℕ} → AreNames line column [] []
  -- spaces and tabs may come before, between and after them
  space : {line column b : ℕ} {rest : List ℕ} {words : Words}
      → IsTrue (is_space b)
      → AreNames line (column + 1) rest words
      → AreNames line column (b ∷ rest) words
  -- a name is a longest run of word bytes that begins with a letter, a digit or `_`
  name : {line column : ℕ} (b : ℕ) (letters rest : List ℕ) {words : Words}
      → IsTrue (is_name_start b) → AreWordBytes letters → EndsWord rest
      → AreNames line (column + length (b ∷ letters)) rest words
      → AreNames line column (b ∷ letters ++ rest)
      ((str_to_ascii_lowercase (b ∷ letters), record { line = line; column = column }) ∷ words)

-- a line of the form: `(`, one name or more, and `)`, maybe with blanks before and after
pub record IsLine (line : ℕ) (bytes : List ℕ) (words : Words) : Type 0 where
  pub lead : List ℕ
  pub inside : List ℕ
  pub trail : List ℕ
  pub parts : bytes ≡ lead ++ (40 ∷ (inside ++ (41 ∷ trail)))
  pub lead_blank : AreBlank lead
  pub trail_blank : AreBlank trail
  pub names : AreNames line (length lead + 2) inside words
  pub named : 0 < length words

-- the rows from this line on spell these lines of a plan
pub data RowsSpell : ℕ → List (List ℕ) → List PlanLine → Type 0 where
  end : {line : ℕ} → RowsSpell line [] []
  -- an empty row spells no line
  empty : {line : ℕ} {row : List ℕ} {rows : List (List ℕ)} {lines : List PlanLine}
      → IsTrue (is_empty_row row)
      → RowsSpell (line + 1) rows lines
      → RowsSpell line (row ∷ rows) lines
  -- what is kept of any other row is a line of the form
  full : {line : ℕ} (row : List ℕ) {rows : List (List ℕ)} {words : Words} {lines : List PlanLine}
      → IsLine line (kept row) words
      → RowsSpell (line + 1) rows lines
      → RowsSpell line (row ∷ rows) (record { words = words } ∷ lines)

-- the bytes spell the lines of a plan
abbrev pub SpellsPlan : List ℕ → List PlanLine → Type 0
SpellsPlan bytes lines = RowsSpell 1 (rows_of bytes) lines

-- some line of the form begins with these bytes
abbrev pub BeginsLine : ℕ → List ℕ → Type 0
BeginsLine line bytes = (more : List ℕ) × (words : Words) × IsLine line (bytes ++ more) words

-- after the bytes before, no line of the form has the next byte; at the end, they aren't a line
abbrev pub IsStuck : ℕ → List ℕ → List ℕ → Type 0
IsStuck line before [] = (words : Words) → ¬ IsLine line before words
IsStuck line before (b ∷ rest) = ¬ BeginsLine line (before ++ b ∷ [])

-- the bytes leave the form at this column, after bytes with which some line of the form begins
pub record LeavesForm (line : ℕ) (bytes : List ℕ) (column : ℕ) : Type 0 where
  pub before : List ℕ
  pub rest : List ℕ
  pub parts : bytes ≡ before ++ rest
  pub at : column ≡ length before + 1
  pub goes_on : BeginsLine line before
  pub stuck : IsStuck line before rest

-- the rows from this line on leave the form, and this is their first fault
pub data RowsFail : ℕ → List (List ℕ) → TextFault → Type 0 where
  -- what is kept of a row leaves the form
  here : {line : ℕ} (row : List ℕ) {rows : List (List ℕ)} {column : ℕ}
      → IsFalse (is_empty_row row) → LeavesForm line (kept row) column
      → RowsFail line (row ∷ rows)
      (fault_at (record { line = line; column = column }) rule.Form)
  -- each earlier row is empty or a line of the form
  after_empty : {line : ℕ} {row : List ℕ} {rows : List (List ℕ)} {fault : TextFault}
      → IsTrue (is_empty_row row)
      → RowsFail (line + 1) rows fault
      → RowsFail line (row ∷ rows) fault
  after_full : {line : ℕ} (row : List ℕ) {rows : List (List ℕ)} {words : Words} {fault : TextFault}
      → IsLine line (kept row) words
      → RowsFail (line + 1) rows fault
      → RowsFail line (row ∷ rows) fault

-- the bytes leave the form of a plan, and this is their first fault
abbrev pub LeavesPlan : List ℕ → TextFault → Type 0
LeavesPlan bytes fault = RowsFail 1 (rows_of bytes) fault

-- How a plan is read, row by row and byte by byte, as functions on lists.
use Rattle.std.specs.Prelude.{ℕ, ◌+◌, List, [], ◌∷◌, ◌++◌, length, ◌==◌, ◌&&◌, nat_lt, Option, Some}
use Rattle.std.specs.Prelude.{None, Result, Ok, Err, if◌then◌else◌}
use Rattle.std.specs.Char.{to_ascii_lowercase}
use Rattle.std.specs.String.{string_bytes}
use Rattle.pddl_text.specs.declared.fault.TextFault.{TextFault}
use Rattle.pddl_text.specs.declared.fault.TextRule.TheVariants as rule
use Rattle.pddl_text.specs.declared.place.Place.{Place}
use Rattle.pddl_text.specs.declared.plan.PlanLine.{PlanLine}
use Rattle.pddl_text.specs.declared.plan.RowMode.{RowMode}
use Rattle.pddl_text.specs.declared.plan.RowMode.TheVariants as mode
use Rattle.pddl_text.specs.declared.plan.RowReader.{RowReader}
use Rattle.pddl_text.specs.Bytes.{is_blank, is_space, is_name_start, is_word_byte}
use Rattle.pddl_text.specs.Faults.{fault_at}
use Rattle.pddl_text.specs.Plans.{Words, kept, rows_of}

-- the state after the bytes of a row so far; in a name, its letters so far and where it began
pub data Row : Type 0 where
  Before : Row
  Inside : Row
  InName : List ℕ → Place → Row
  Closed : Row

-- the names of a row so far, and the state after its bytes so far
pub record RowState : Type 0 where
  pub words : Words
  pub row : Row

-- a byte inside the parentheses and outside a name
abbrev pub inside_step : Words → Place → ℕ → Option RowState
inside_step words at b =
    if is_space b then Some (record { words = words; row = Inside })
    else (if b == 41 && nat_lt 0 (length words) then Some (record { words = words; row = Closed })
    else (if is_name_start b then
    Some (record { words = words; row = InName (to_ascii_lowercase b ∷ []) at })
    else None))

-- the state after the next byte of a row, if some line of the form has it there
abbrev pub row_step : Row → Words → Place → ℕ → Option RowState
row_step Before words at b =
    if is_blank b then Some (record { words = words; row = Before })
    else (if b == 40 then Some (record { words = words; row = Inside })
    else None)
row_step Inside words at b = inside_step words at b
row_step (InName text from) words at b =
    if is_word_byte b then
    Some (record { words = words; row = InName (text ++ to_ascii_lowercase b ∷ []) from })
    else inside_step (words ++ (text, from) ∷ []) at b
row_step Closed words at b =
    if is_blank b then Some (record { words = words; row = Closed }) else None

-- the end of a row: it was a line of these names, or it ends too early
abbrev pub row_end : Row → Words → Place → Result PlanLine TextFault
row_end Before words at = Err (fault_at at rule.Form)
row_end Inside words at = Err (fault_at at rule.Form)
row_end (InName text from) words at = Err (fault_at at rule.Form)
row_end Closed words at = Ok (record { words = words })

-- the place of the next byte of the line
abbrev pub beside : Place → Place
beside at = record { line = at.line; column = at.column + 1 }

-- the row goes on in this state, or no line of the form has the byte here
abbrev pub goes_on : Option RowState → Place → (RowState → Result PlanLine TextFault)
    → Result PlanLine TextFault
goes_on None at next = Err (fault_at at rule.Form)
goes_on (Some state) at next = next state

-- what the rest of a row is read as, from this place on
abbrev pub row_from : RowState → Place → List ℕ → Result PlanLine TextFault
row_from state at [] = row_end state.row state.words at
row_from state at (b ∷ bytes) =
    goes_on (row_step state.row state.words at b) at (λ next. row_from next (beside at) bytes)

-- before the first byte of a row
abbrev pub row_start : RowState
row_start = record { words = []; row = Before }

-- what a whole row is read as, from its kept bytes
abbrev pub line_of : ℕ → List ℕ → Result PlanLine TextFault
line_of line bytes = row_from row_start (record { line = line; column = 1 }) bytes

-- a row's line is added to the lines so far
abbrev pub adds : Result PlanLine TextFault → List PlanLine
    → (List PlanLine → Result (List PlanLine) TextFault) → Result (List PlanLine) TextFault
adds (Err fault) lines next = Err fault
adds (Ok line) lines next = next (lines ++ line ∷ [])

-- one row, from its kept bytes: an empty row adds no line
abbrev pub row_then : ℕ → List ℕ → List PlanLine
    → (List PlanLine → Result (List PlanLine) TextFault) → Result (List PlanLine) TextFault
row_then line [] lines next = next lines
row_then line (b ∷ bytes) lines next = adds (line_of line (b ∷ bytes)) lines next

-- the rows from this line on, after the lines so far
abbrev pub rows_from : List PlanLine → ℕ → List (List ℕ) → Result (List PlanLine) TextFault
rows_from lines line [] = Ok lines
rows_from lines line (row ∷ rows) =
    row_then line (kept row) lines (λ more. rows_from more (line + 1) rows)

-- what the bytes of a whole plan are read as
abbrev pub lines_of : List ℕ → Result (List PlanLine) TextFault
lines_of bytes = rows_from [] 1 (rows_of bytes)

-- the state after a reader's bytes so far
abbrev pub row_in : RowMode → List ℕ → Row
row_in mode.Before letters = Before
row_in mode.Inside letters = Inside
row_in (mode.InName from) letters = InName letters from
row_in mode.Closed letters = Closed

-- what a reader has read of its row
abbrev pub state_of : RowReader → RowState
state_of reader =
    record { words = reader.words; row = row_in reader.mode (string_bytes reader.letters) }

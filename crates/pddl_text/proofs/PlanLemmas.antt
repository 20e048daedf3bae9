-- A text spells exactly the lines of a plan that it is read as, and leaves the form exactly where
-- its reading stops.
use Rattle.std.proofs.Common.{◌≡◌, ℕ, ◌+◌, Bool, true, false, List, [], ◌∷◌, ◌++◌, Result, Ok, Err, sym, ap, subst, ◌∙◌, refl, append_assoc}
use Rattle.std.proofs.lemmas.List.{append-nil}
use Rattle.std.proofs.lemmas.Bool.{false≢true}
use Rattle.pddl_text.specs.declared.fault.TextFault.{TextFault}
use Rattle.pddl_text.specs.declared.plan.PlanLine.{PlanLine}
use Rattle.pddl_text.specs.Plans.{rows_of, is_empty_row, kept, RowsSpell, end, empty, full, SpellsPlan, RowsFail, here, after_empty, after_full, LeavesPlan}
use Rattle.pddl_text.specs.PlanReading.{line_of, adds, row_then, rows_from, lines_of}
use Rattle.pddl_text.proofs.ExactLemmas.{IsExact}
use Rattle.pddl_text.proofs.KeptLemmas.{kept_nothing}
use Rattle.pddl_text.proofs.LineLemmas.{Words, Read, read, line_is_read, read_is_line}
use Rattle.pddl_text.proofs.StuckLemmas.{failed, form_at, stopped_leaves, left_is_stopped}

abbrev ReadLines : Type 0
ReadLines = Result (List PlanLine) TextFault

abbrev all_read : List PlanLine → ReadLines
all_read lines = Ok lines

abbrev all_failed : TextFault → ReadLines
all_failed fault = Err fault

abbrev named : Words → PlanLine
named words = record { words = words }

-- ---- which rows are empty

empty_of : (t : Bool) (row : List ℕ) → is_empty_row row ≡ t → kept row ≡ [] → is_empty_row row ≡ true
empty_of true row is none = is
empty_of false [] is none = refl
empty_of false (b ∷ row) is none = let some : b ∷ kept row ≡ [] = rw is at none in absurd cc

kept_is_nothing : (row : List ℕ) → kept row ≡ [] → is_empty_row row ≡ true
kept_is_nothing row none = empty_of (is_empty_row row) row refl none

nonempty : (row : List ℕ) → is_empty_row row ≡ false → kept row ≡ [] → ⊥
nonempty row is none = false≢true (sym is ∙ kept_is_nothing row none)

filled : (row : List ℕ) (b : ℕ) (bytes : List ℕ) (t : Bool) → is_empty_row row ≡ t → kept row ≡ b ∷ bytes → is_empty_row row ≡ false
filled row b bytes true is some = let none : kept row ≡ [] = kept_nothing row is in absurd cc
filled row b bytes false is some = is

-- ---- one row

empty_then : (line : ℕ) (bytes : List ℕ) (lines : List PlanLine) (next : List PlanLine → ReadLines) → bytes ≡ [] → row_then line bytes lines next ≡ next lines
empty_then line [] lines next none = refl
empty_then line (b ∷ bytes) lines next none = absurd cc

full_then : (line : ℕ) (bytes : List ℕ) (words : Words) (lines : List PlanLine) (next : List PlanLine → ReadLines) → line_of line bytes ≡ read words → row_then line bytes lines next ≡ next (lines ++ named words ∷ [])
full_then line [] words lines next e = absurd cc
full_then line (b ∷ bytes) words lines next e = ap (λ (r : Read). adds r lines next) e

failed_then : (line : ℕ) (bytes : List ℕ) (fault : TextFault) (lines : List PlanLine) (next : List PlanLine → ReadLines) → (bytes ≡ [] → ⊥) → line_of line bytes ≡ failed fault → row_then line bytes lines next ≡ all_failed fault
failed_then line [] fault lines next some e = absurd (some refl)
failed_then line (b ∷ bytes) fault lines next some e = ap (λ (r : Read). adds r lines next) e

-- ---- what is spelled is read

spelled_rows : {line : ℕ} {rows : List (List ℕ)} {more : List PlanLine} → RowsSpell line rows more → (lines : List PlanLine) → rows_from lines line rows ≡ all_read (lines ++ more)
spelled_rows end lines = ap all_read (sym (append-nil lines))
spelled_rows (empty {line = line} {row = row} {rows = rows} is more) lines =
    empty_then line (kept row) lines (λ all. rows_from all (line + 1) rows) (kept_nothing row is) ∙ spelled_rows more lines
spelled_rows (full {line = line} row {rows = rows} {words = words} {lines = more_lines} is more) lines =
    full_then line (kept row) words lines (λ all. rows_from all (line + 1) rows) (line_is_read line (kept row) words is) ∙ spelled_rows more (lines ++ named words ∷ [])
    ∙ ap all_read (append_assoc lines (named words ∷ []) more_lines)

failing_rows : {line : ℕ} {rows : List (List ℕ)} {fault : TextFault} → RowsFail line rows fault → (lines : List PlanLine) → rows_from lines line rows ≡ all_failed fault
failing_rows (here {line = line} row {rows = rows} {column = column} some left) lines =
    failed_then line (kept row) (form_at line column) lines (λ all. rows_from all (line + 1) rows) (nonempty row some) (left_is_stopped line (kept row) column left)
failing_rows (after_empty {line = line} {row = row} {rows = rows} is more) lines =
    empty_then line (kept row) lines (λ all. rows_from all (line + 1) rows) (kept_nothing row is) ∙ failing_rows more lines
failing_rows (after_full {line = line} row {rows = rows} {words = words} is more) lines =
    full_then line (kept row) words lines (λ all. rows_from all (line + 1) rows) (line_is_read line (kept row) words is) ∙ failing_rows more (lines ++ named words ∷ [])

-- ---- what is read is spelled

record SpellsMore (line : ℕ) (rows : List (List ℕ)) (lines all : List PlanLine) : Type 0 where
  more : List PlanLine
  all-is : all ≡ lines ++ more
  spells : RowsSpell line rows more

all_read-inj : (one two : List PlanLine) → all_read one ≡ all_read two → one ≡ two
all_read-inj one two e = cc

abbrev SpelledFrom : ℕ → List (List ℕ) → Type 0
SpelledFrom line rows = (lines all : List PlanLine) → rows_from lines line rows ≡ all_read all → SpellsMore line rows lines all

full_spelled : (line : ℕ) (row : List ℕ) (rows : List (List ℕ)) (lines all : List PlanLine) → SpelledFrom (line + 1) rows → (result : Read) → line_of line (kept row) ≡ result
    → adds result lines (λ more. rows_from more (line + 1) rows) ≡ all_read all → SpellsMore line (row ∷ rows) lines all
full_spelled line row rows lines all rest (Ok one) is e =
    let found = rest (lines ++ one ∷ []) all e in
    record {
      more = one ∷ found.more;
      all-is = found.all-is ∙ append_assoc lines (one ∷ []) found.more;
      spells = full row (read_is_line line (kept row) one.words is) found.spells;
    }
full_spelled line row rows lines all rest (Err fault) is e = absurd cc

row_spelled : (line : ℕ) (row : List ℕ) (rows : List (List ℕ)) (lines all : List PlanLine) → SpelledFrom (line + 1) rows → (bytes : List ℕ) → kept row ≡ bytes
    → row_then line bytes lines (λ more. rows_from more (line + 1) rows) ≡ all_read all → SpellsMore line (row ∷ rows) lines all
row_spelled line row rows lines all rest [] is e =
    let found = rest lines all e in
    record { more = found.more; all-is = found.all-is; spells = empty (kept_is_nothing row is) found.spells }
row_spelled line row rows lines all rest (b ∷ bytes) is e = full_spelled line row rows lines all rest (line_of line (b ∷ bytes)) (ap (line_of line) is) e

read_rows : (rows : List (List ℕ)) (line : ℕ) → SpelledFrom line rows
read_rows [] line lines all e = record { more = []; all-is = sym (all_read-inj lines all e) ∙ sym (append-nil lines); spells = end }
read_rows (row ∷ rows) line lines all e = row_spelled line row rows lines all (read_rows rows (line + 1)) (kept row) refl e

-- ---- where the reading stops, the rows fail

abbrev FailsFrom : ℕ → List (List ℕ) → Type 0
FailsFrom line rows = (lines : List PlanLine) (fault : TextFault) → rows_from lines line rows ≡ all_failed fault → RowsFail line rows fault

row_stopped : (line : ℕ) (row : List ℕ) (rows : List (List ℕ)) (fault : TextFault) → is_empty_row row ≡ false → line_of line (kept row) ≡ failed fault → RowsFail line (row ∷ rows) fault
row_stopped line row rows fault some e =
    let stop = stopped_leaves line (kept row) fault e in
    subst (RowsFail line (row ∷ rows)) (sym stop.1) (here row some stop.2)

full_fails : (line : ℕ) (row : List ℕ) (rows : List (List ℕ)) (lines : List PlanLine) (fault : TextFault) → is_empty_row row ≡ false → FailsFrom (line + 1) rows → (result : Read) → line_of line (kept row) ≡ result
    → adds result lines (λ more. rows_from more (line + 1) rows) ≡ all_failed fault → RowsFail line (row ∷ rows) fault
full_fails line row rows lines fault some rest (Ok one) is e = after_full row (read_is_line line (kept row) one.words is) (rest (lines ++ one ∷ []) fault e)
full_fails line row rows lines fault some rest (Err found) is e = let same : found ≡ fault = cc in row_stopped line row rows fault some (is ∙ ap failed same)

row_fails : (line : ℕ) (row : List ℕ) (rows : List (List ℕ)) (lines : List PlanLine) (fault : TextFault) → FailsFrom (line + 1) rows → (bytes : List ℕ) → kept row ≡ bytes
    → row_then line bytes lines (λ more. rows_from more (line + 1) rows) ≡ all_failed fault → RowsFail line (row ∷ rows) fault
row_fails line row rows lines fault rest [] is e = after_empty (kept_is_nothing row is) (rest lines fault e)
row_fails line row rows lines fault rest (b ∷ bytes) is e =
    full_fails line row rows lines fault (filled row b bytes (is_empty_row row) refl is) rest (line_of line (b ∷ bytes)) (ap (line_of line) is) e

fails_rows : (rows : List (List ℕ)) (line : ℕ) → FailsFrom line rows
fails_rows [] line lines fault e = absurd cc
fails_rows (row ∷ rows) line lines fault e = row_fails line row rows lines fault (fails_rows rows (line + 1)) (kept row) refl e

-- ---- a whole plan

read_is_spelled : (bytes : List ℕ) (lines : List PlanLine) → lines_of bytes ≡ all_read lines → SpellsPlan bytes lines
read_is_spelled bytes lines e =
    let found = read_rows (rows_of bytes) 1 [] lines e in
    subst (SpellsPlan bytes) (sym found.all-is) found.spells

pub plan_exact : (bytes : List ℕ) → IsExact (lines_of bytes) (SpellsPlan bytes) (LeavesPlan bytes)
plan_exact bytes = record {
  spelled = λ lines spells. spelled_rows spells [];
  is_spelled = read_is_spelled bytes;
  broken = λ fault leaves. failing_rows leaves [];
  is_broken = λ fault. fails_rows (rows_of bytes) 1 [] fault;
}

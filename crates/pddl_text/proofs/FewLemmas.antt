-- A plan has no more lines and words than bytes, and each line has a word.
use Rattle.std.proofs.Common.{ℕ, ◌+◌, ◌<◌, ◌≤◌, List, [], ◌∷◌, ◌++◌, length, ap, ◌∙◌, arith, length-append}
use Rattle.std.specs.List.{All, AllByRecursion, join_with_byte}
use Rattle.std.proofs.lemmas.List.Elements.{All-from_recursion}
use Rattle.std.proofs.lemmas.List.Splits.{join_with_byte-slice_split}
use Rattle.mre_base.specs.declared.text.Text.{Text}
use Rattle.pddl_text.specs.declared.place.Place.{Place}
use Rattle.pddl_text.specs.declared.plan.PlanLine.{PlanLine}
use Rattle.pddl_text.specs.Plans.{rows_of, kept, AreNames, none, space, name, IsLine, RowsSpell, end, empty, full, SpellsPlan}
use Rattle.pddl_text.specs.Spans.{words_of}
use Rattle.pddl_text.proofs.WordLemmas.{kept_front}

names_few : {line column : ℕ} {inside : List ℕ} {words : List (Text × Place)} → AreNames line column inside words → length words ≤ length inside
names_few none = omega arith
names_few (space is more) = omega (arith, names_few more)
names_few (name b letters rest is all ends more) = omega (arith, names_few more, length-append letters rest)

line_few : (line : ℕ) (bytes : List ℕ) (words : List (Text × Place)) → IsLine line bytes words → length words + 2 ≤ length bytes
line_few line bytes words is =
    let bytes-is = ap length is.parts ∙ length-append is.lead (40 ∷ (is.inside ++ (41 ∷ is.trail))) in
    omega (arith, bytes-is, length-append is.inside (41 ∷ is.trail), names_few is.names)

kept_few : (row : List ℕ) → length (kept row) ≤ length row
kept_few row = let front = kept_front row in omega (arith, ap length front.1, length-append (kept row) front.0)

-- the number of bytes in the rows, without the line feeds between them
abbrev total : List (List ℕ) → ℕ
total [] = 0
total (row ∷ rows) = length row + total rows

total_few : (rows : List (List ℕ)) → total rows ≤ length (join_with_byte 10 rows)
total_few [] = omega arith
total_few (row ∷ []) = omega arith
total_few (row ∷ next ∷ rows) = omega (arith, total_few (next ∷ rows), length-append row (10 ∷ join_with_byte 10 (next ∷ rows)))

rows_few : {line : ℕ} {rows : List (List ℕ)} {lines : List PlanLine} → RowsSpell line rows lines → length lines + length (words_of lines) ≤ total rows
rows_few end = omega arith
rows_few (empty is more) = omega (arith, rows_few more)
rows_few (full {line = line} row {words = words} {lines = lines} is more) =
    omega (arith, rows_few more, line_few line (kept row) words is, kept_few row, length-append words (words_of lines))

pub lines_few : (bytes : List ℕ) (lines : List PlanLine) → SpellsPlan bytes lines → length lines + length (words_of lines) ≤ length bytes
lines_few bytes lines spells = omega (arith, rows_few spells, total_few (rows_of bytes), ap length (join_with_byte-slice_split 10 bytes))

rows_named : {line : ℕ} {rows : List (List ℕ)} {lines : List PlanLine} → RowsSpell line rows lines → AllByRecursion (λ (line : PlanLine). 0 < length line.words) lines
rows_named end = tt
rows_named (empty is more) = rows_named more
rows_named (full row is more) = (is.named, rows_named more)

pub lines_named : (bytes : List ℕ) (lines : List PlanLine) → SpellsPlan bytes lines → All (λ (line : PlanLine). 0 < length line.words) lines
lines_named bytes lines spells = All-from_recursion (λ (line : PlanLine). 0 < length line.words) lines (rows_named spells)

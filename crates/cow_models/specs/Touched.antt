-- The rows of a table's actions in which a difference has a part.
use Rattle.std.specs.Prelude.{ℕ, ◌*◌, Bool, drop, length, take}
use Rattle.std.specs.List.{count_by, list_any, range_with_len}
use Rattle.case_kit.specs.declared.table.CaseTable.{CaseTable}
use Rattle.case_kit.specs.Parts.{touches}
use Rattle.cow_models.specs.Rows.{row_count}

-- the row with this number has an action in which the difference has a part
abbrev pub touches_row : CaseTable → ℕ → ℕ → Bool
touches_row table place row =
    list_any (λ action. touches action place) (take 16 (drop (16 * row) table.actions))

-- how many of the first rows the difference touches
abbrev pub touched_first : CaseTable → ℕ → ℕ → ℕ
touched_first table place rows = count_by (touches_row table place) (range_with_len 0 rows)

-- how many rows the difference touches
abbrev pub touched_rows : CaseTable → ℕ → ℕ
touched_rows table place = touched_first table place (row_count (length table.actions))

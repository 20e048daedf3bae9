-- What a refusal writes on the sink of refusals, and the status with which the call ends.
use Rattle.std.specs.Prelude.{◌≡◌, ◌<◌, ◌⊎◌, ℕ, List, ◌++◌, length, take}
use Rattle.std.specs.List.{concat}
use Rattle.std.specs.Io.KnownBytes.{Appends}
use Rattle.mre_outside.specs.Failures.{Rose}
use Rattle.mre_outside.specs.Sinks.{AppendsPrefix}
use Rattle.mre_top.specs.declared.refusal.Refusal.{Refusal}
use Rattle.mre_top.specs.Calls.{SinkChange}
use Rattle.mre_top.specs.Refusals.{lines_of, status_of, memory_line}

-- the sink grew by these bytes; or it isn't sound, failed, and grew by a prefix of them
abbrev pub IsWritten : SinkChange → List ℕ → Type 0
IsWritten sink bytes =
    Appends sink.written.old sink.written.new bytes
    ⊎ (¬ sink.sound × Rose sink.failures.old sink.failures.new
    × AppendsPrefix sink.written.old sink.written.new bytes)

-- the lines of a refusal, one after another
abbrev pub report_of : List (List ℕ) → Refusal → List ℕ
report_of names refusal = concat (lines_of names refusal)

-- the first of these lines, as many as the number says
abbrev pub first_lines : List (List ℕ) → Refusal → ℕ → List ℕ
first_lines names refusal count = concat (take count (lines_of names refusal))

-- memory ran out: the first lines of the refusal, but not all, were written whole, and after them
-- nothing, or the line of status 9
abbrev pub IsReportCut : SinkChange → List (List ℕ) → Refusal → Type 0
IsReportCut faults names refusal =
    (count : ℕ) × (count < length (lines_of names refusal))
    × (Appends faults.written.old faults.written.new (first_lines names refusal count)
    ⊎ IsWritten faults (first_lines names refusal count ++ memory_line))

-- the line of status 9 was written, or nothing was
abbrev pub IsMemoryReported : SinkChange → Type 0
IsMemoryReported faults =
    (faults.written.new ≡ faults.written.old) ⊎ IsWritten faults memory_line

-- the status is the refusal's, and its lines were written; or memory ran out in between
abbrev pub IsReported : SinkChange → List (List ℕ) → Refusal → ℕ → Type 0
IsReported faults names refusal status =
    ((status ≡ status_of refusal) × IsWritten faults (report_of names refusal))
    ⊎ ((status ≡ 9) × IsReportCut faults names refusal)

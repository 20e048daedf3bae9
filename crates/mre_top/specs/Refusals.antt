-- The status and the lines of each refusal.
use Rattle.std.specs.Prelude.{◌<◌, ℕ, List, [], ◌∷◌, ◌++◌, length, codes}
use Rattle.mre_top.specs.declared.refusal.Refusal.{Refusal}
use Rattle.mre_top.specs.declared.refusal.Refusal.TheVariants.{Usage, ReadFailed, WriteFailed}
use Rattle.mre_top.specs.declared.refusal.Refusal.TheVariants.{TooLong, Stopped, NoMemory}
use Rattle.request_answers.specs.Lines.{line, name_at}
use Rattle.request_answers.specs.Lines.{status_of as stop_status, lines_of as stop_lines}
use Rattle.request_answers.specs.Lines.{IsOfFile as IsStopOfFile}

-- the status
abbrev pub status_of : Refusal → ℕ
status_of Usage = 2
status_of (ReadFailed file) = 3
status_of WriteFailed = 4
status_of (TooLong file) = 7
status_of (Stopped stop) = stop_status stop
status_of NoMemory = 9

-- the line of status 9
abbrev pub memory_line : List ℕ
memory_line = line (codes "mre: out of memory")

-- the lines of a refusal, where the files have these names
abbrev pub lines_of : List (List ℕ) → Refusal → List (List ℕ)
lines_of names Usage =
    line (codes "mre: usage: explain, check, diff, patch, plan-patch or gen") ∷ []
lines_of names (ReadFailed file) =
    (codes "mre: " ++ (name_at names file ++ line (codes ": read failed"))) ∷ []
lines_of names WriteFailed = line (codes "mre: write failed") ∷ []
lines_of names (TooLong file) =
    (codes "mre: bytes of " ++ (name_at names file ++ line (codes " 4194305 limit 4194304"))) ∷ []
lines_of names (Stopped stop) = stop_lines names stop
lines_of names NoMemory = memory_line ∷ []

-- if the refusal is about a file, it is one of these
abbrev pub IsOfFile : List (List ℕ) → Refusal → Type 0
IsOfFile names (ReadFailed file) = file < length names
IsOfFile names (TooLong file) = file < length names
IsOfFile names (Stopped stop) = IsStopOfFile (length names) stop
IsOfFile names _ = Unit {0}

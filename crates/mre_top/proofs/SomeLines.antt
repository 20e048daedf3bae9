-- Each refusal is told by a line at least.
use Rattle.std.proofs.Common.{ℕ, ◌<◌, List, length, arith}
use Rattle.request_answers.specs.declared.stop.AnswerStop.{AnswerStop}
use Rattle.request_answers.specs.Lines.{lines_of as stop_lines}
use Rattle.mre_top.specs.declared.refusal.Refusal.{Refusal}
use Rattle.mre_top.specs.declared.refusal.Refusal.TheVariants.{Stopped}
use Rattle.mre_top.specs.Refusals.{lines_of}

stop_some : (names : List (List ℕ)) (stop : AnswerStop) → 0 < length (stop_lines names stop)
stop_some names stop = omega arith

pub some_lines : (names : List (List ℕ)) (refusal : Refusal) → 0 < length (lines_of names refusal)
some_lines names (Stopped stop) = stop_some names stop
some_lines names _ = omega arith

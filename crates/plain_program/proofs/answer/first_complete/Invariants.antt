use Rattle.plain_program.proofs.BestLemmas.{IsBest}
use Rattle.plain_program.proofs.answer.first_complete.Given as goal

abbrev pub invariant-loop-place : goal.invariant-loop-place
invariant-loop-place l = IsBest l.table l.plan l.sets l.place l.best

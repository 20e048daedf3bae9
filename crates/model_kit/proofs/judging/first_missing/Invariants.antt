use Rattle.model_kit.proofs.MissingLemmas.{Known}
use Rattle.model_kit.proofs.judging.first_missing.Given as goal

abbrev pub invariant-loop-place : goal.invariant-loop-place
invariant-loop-place l = Known l.words l.state l.atoms l.place l.best

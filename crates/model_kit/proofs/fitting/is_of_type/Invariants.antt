use Rattle.model_kit.proofs.TypeLemmas.{Climbed}
use Rattle.model_kit.proofs.fitting.is_of_type.Given as goal

abbrev pub invariant-loop : goal.invariant-loop
invariant-loop l = Climbed l.types l.number l.above l.counter l.current

use Rattle.model_kit.specs.Places.{meaning}
use Rattle.model_kit.proofs.JudgingLemmas.{Reached}
use Rattle.model_kit.proofs.judging.judge_names.Given as goal

abbrev pub invariant-loop-place : goal.invariant-loop-place
invariant-loop-place l = Reached (meaning l.model) l.plan.steps l.place l.state l.cost

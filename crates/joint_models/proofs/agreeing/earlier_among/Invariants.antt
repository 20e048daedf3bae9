use Rattle.std.proofs.Common.{take}
use Rattle.model_kit.specs.Pairs.{names}
use Rattle.joint_models.specs.Disagreements.{Disagree}
use Rattle.joint_models.specs.Searching.{GoesOn}
use Rattle.joint_models.proofs.agreeing.earlier_among.Given as goal

abbrev pub invariant-loop-place : goal.invariant-loop-place
invariant-loop-place l = GoesOn (Disagree l.group l.planner.words.now l.user.words.now) (names (take l.place l.among)) l.fn.before l.least

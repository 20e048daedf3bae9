use Rattle.std.proofs.Common.{◌≡◌, take}
use Rattle.cow_models.proofs.making.copied_actions.Given as goal

abbrev pub invariant-loop-place : goal.invariant-loop-place
invariant-loop-place l = l.made ≡ take l.place l.actions

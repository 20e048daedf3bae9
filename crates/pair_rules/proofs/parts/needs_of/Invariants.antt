use Rattle.std.proofs.Common.{◌≡◌, take, filter, not}
use Rattle.pair_rules.specs.Made.{is_pre}
use Rattle.pair_rules.proofs.parts.needs_of.Given as goal

abbrev pub invariant-loop-place : goal.invariant-loop-place
invariant-loop-place l = l.made ≡ filter (λ atom. not (is_pre l.action atom l.differences)) (take l.place l.pre)

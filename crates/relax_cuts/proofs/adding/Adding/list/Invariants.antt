use Rattle.std.proofs.Common.{◌≡◌}
use Rattle.relax_cuts.proofs.adding.Adding.list.Given as goal

abbrev pub invariant-loop : goal.invariant-loop
invariant-loop g l = l.listed.width ≡ l.initial.listed.width

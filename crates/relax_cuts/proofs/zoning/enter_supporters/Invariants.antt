use Rattle.std.proofs.Common.{◌≡◌}
use Rattle.relax_cuts.proofs.zoning.enter_supporters.Given as goal

abbrev pub invariant-loop : goal.invariant-loop
invariant-loop l = l.zone.atoms.width ≡ l.initial.zone.atoms.width

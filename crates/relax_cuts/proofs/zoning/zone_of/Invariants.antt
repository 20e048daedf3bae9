use Rattle.std.proofs.Common.{◌≡◌}
use Rattle.relax_cuts.proofs.zoning.zone_of.Given as goal

abbrev pub invariant-loop : goal.invariant-loop
invariant-loop l = l.zone.atoms.width ≡ l.width

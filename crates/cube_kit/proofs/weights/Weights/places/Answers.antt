use Rattle.std.proofs.Common.{length, sym, ap, ◌∙◌, subst}
use Rattle.cube_kit.specs.Weighing.{IsWeighing}
use Rattle.cube_kit.proofs.weights.Weights.places.Goals as goal

pub returns-clause-places : goal.returns-clause-places
returns-clause-places c = sym c.self.told ∙ ap length c.self.view_is

pub returns-clause-weights : goal.returns-clause-weights
returns-clause-weights c = subst IsWeighing c.self.view_is c.self.invariant

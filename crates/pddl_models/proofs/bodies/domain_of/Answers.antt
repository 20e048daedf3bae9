use Rattle.std.proofs.Common.{arith}
use Rattle.pddl_models.proofs.BodyLemmas.{said_bodies}
use Rattle.pddl_models.proofs.CountedLemmas.{few_predicates, few_functions, few_objects}
use Rattle.pddl_models.proofs.bodies.domain_of.Goals as goal

pub bodies_of-requires-clause-predicates : goal.bodies_of-requires-clause-predicates
bodies_of-requires-clause-predicates c = omega (arith, few_predicates c.args.said.now c.args.words c.requires.says, c.requires.few)

pub bodies_of-requires-clause-functions : goal.bodies_of-requires-clause-functions
bodies_of-requires-clause-functions c = omega (arith, few_functions c.args.said.now c.args.words c.requires.says, c.requires.few)

pub bodies_of-requires-clause-objects : goal.bodies_of-requires-clause-objects
bodies_of-requires-clause-objects c = omega (arith, few_objects c.args.said.now c.args.words c.requires.says, c.requires.few)

pub invariant_of-result : goal.invariant_of-result
invariant_of-result c =
    record { sound = said_bodies c.args.said.now c.args.words c.requires.says c.requires.named c.requires.calls c.in_ok-bodies.bodies c.in_ok-bodies.ensures.ok }

use Rattle.std.proofs.Common.{◌∙◌, sym, ap}
use Rattle.model_kit.specs.Places.{Knows, meaning}
use Rattle.pair_tables.proofs.SchemaLemmas.{known_both, known_told, known_left}
use Rattle.pair_tables.proofs.schemas.known_when.Goals as goal

pub returns-in-None : goal.returns-in-None
returns-in-None c = λ has. known_both c.args.pair.now.planner c.args.pair.now.user c.args.differences.now c.requires.all c.args.action (sym c.number_at.ensures ∙ c.in-None.is) has

pub returns-then-knows : goal.returns-then-knows
returns-then-knows c = λ has.
    known_told c.args.pair.now.planner c.args.pair.now.user c.args.differences.now c.requires.all c.args.action c.in-Some.number (sym c.number_at.ensures ∙ c.in-Some.is) c.knows.result
    (ap (λ m. meaning m (Knows c.args.action)) (sym c.planner.ensures) ∙ c.knows.ensures) c.if-knows.true

pub returns-else-knows : goal.returns-else-knows
returns-else-knows c = λ has.
    known_left c.args.pair.now.planner c.args.pair.now.user c.args.differences.now c.requires.all c.args.action c.in-Some.number (sym c.number_at.ensures ∙ c.in-Some.is) c.knows.result
    (ap (λ m. meaning m (Knows c.args.action)) (sym c.planner.ensures) ∙ c.knows.ensures) c.if-knows.false has

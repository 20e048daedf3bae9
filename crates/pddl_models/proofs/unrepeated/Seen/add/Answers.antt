use Rattle.pddl_models.proofs.KeptLemmas.{has_key-insert}
use Rattle.pddl_models.proofs.unrepeated.Seen.add.Goals as goal

pub returns-clause-seen : goal.returns-clause-seen
returns-clause-seen c = has_key-insert c.args.self.now (record { keys = c.insert.new.self }) c.args.key c.in_ok-insert.ensures.updates

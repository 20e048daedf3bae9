use Rattle.pddl_names.specs.Known.{declared_before}
use Rattle.pddl_names.proofs.CheckLemmas.{named_told}
use Rattle.pddl_names.proofs.checking.check_names.Goals as goal

pub returns-in-Ok-clause-ok : goal.returns-in-Ok-clause-ok
returns-in-Ok-clause-ok c = (named_told (declared_before c.args.base) c.args.words.now c.check.result (c.check.ensures (declared_before c.args.base) c.in-Ok.ensures.ok)).0

pub returns-in-Ok-clause-fault : goal.returns-in-Ok-clause-fault
returns-in-Ok-clause-fault c = (named_told (declared_before c.args.base) c.args.words.now c.check.result (c.check.ensures (declared_before c.args.base) c.in-Ok.ensures.ok)).1

use Rattle.std.proofs.Common.{sym, subst}
use Rattle.task_kit.specs.Tasks.{cost_at}
use Rattle.case_kit.specs.Members.{member}
use Rattle.case_kit.specs.Relaxed.{IsLeastCost}
use Rattle.case_kit.proofs.RelaxedLemmas.{each_permissive}
use Rattle.case_kit.proofs.MadeLemmas.{cube_live}
use Rattle.case_kit.proofs.table.CaseTable.low.Goals as goal

pub returns-clause-least : goal.returns-clause-least
returns-clause-least c =
    subst (IsLeastCost c.args.cube.now (λ told. cost_at (member c.args.self.now told) c.args.action)) (sym c.cost_by.ensures)
    (each_permissive c.args.self.now c.args.cube.now (cube_live c.args.self.now c.args.cube.now c.requires.cube) c.args.action).cost

use Rattle.std.proofs.Common.{sym, subst}
use Rattle.task_kit.specs.Tasks.{cost_at}
use Rattle.case_kit.specs.Members.{member}
use Rattle.case_kit.specs.Relaxed.{IsGreatestCost}
use Rattle.case_kit.proofs.RelaxedLemmas.{each_restrictive}
use Rattle.case_kit.proofs.MadeLemmas.{cube_live}
use Rattle.case_kit.proofs.table.CaseTable.high.Goals as goal

pub returns-clause-greatest : goal.returns-clause-greatest
returns-clause-greatest c =
    subst (IsGreatestCost c.args.cube.now (λ told. cost_at (member c.args.self.now told) c.args.action)) (sym c.cost_by.ensures)
    (each_restrictive c.args.self.now c.args.cube.now (cube_live c.args.self.now c.args.cube.now c.requires.cube) c.args.action).cost

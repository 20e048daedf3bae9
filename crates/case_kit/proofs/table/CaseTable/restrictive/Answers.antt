use Rattle.std.proofs.Common.{sym, subst}
use Rattle.case_kit.specs.Relaxed.{IsRestrictive}
use Rattle.case_kit.proofs.RelaxedLemmas.{made_restrictive}
use Rattle.case_kit.proofs.MadeLemmas.{cube_live}
use Rattle.case_kit.proofs.table.CaseTable.restrictive.Goals as goal

pub returns-clause-restrictive : goal.returns-clause-restrictive
returns-clause-restrictive c =
    subst (IsRestrictive c.args.self.now c.args.cube.now) (sym c.in_ok-task_by.ensures) (made_restrictive c.args.self.now c.args.cube.now (cube_live c.args.self.now c.args.cube.now c.requires.cube))

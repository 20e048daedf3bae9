use Rattle.std.proofs.Common.{sym, subst}
use Rattle.case_kit.specs.Relaxed.{IsPermissive}
use Rattle.case_kit.proofs.RelaxedLemmas.{made_permissive}
use Rattle.case_kit.proofs.MadeLemmas.{cube_live}
use Rattle.case_kit.proofs.table.CaseTable.permissive.Goals as goal

pub returns-clause-permissive : goal.returns-clause-permissive
returns-clause-permissive c =
    subst (IsPermissive c.args.self.now c.args.cube.now) (sym c.in_ok-task_by.ensures) (made_permissive c.args.self.now c.args.cube.now (cube_live c.args.self.now c.args.cube.now c.requires.cube))

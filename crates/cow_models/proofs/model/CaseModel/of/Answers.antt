use Rattle.std.proofs.Common.{sym, subst}
use Rattle.case_kit.specs.Evaluated.{relaxed}
use Rattle.cow_models.specs.Rows.{AreRows}
use Rattle.cow_models.proofs.model.CaseModel.of.Goals as goal

pub assembled-requires-clause-rows : goal.assembled-requires-clause-rows
assembled-requires-clause-rows g c =
    subst (λ cube. AreRows (relaxed c.args.way c.args.table.now cube) c.in_ok-rows.rows) (sym c.copy.ensures) c.in_ok-rows.ensures.rows

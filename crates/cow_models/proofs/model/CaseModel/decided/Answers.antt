use Rattle.std.proofs.Common.{sym, subst, ◌∙◌}
use Rattle.case_kit.specs.Evaluated.{relaxed}
use Rattle.cow_models.specs.Changed.{AreChanged}
use Rattle.cow_models.specs.Models.{IsModelOf}
use Rattle.cow_models.specs.Rows.{AreRows}
use Rattle.cow_models.proofs.KeptRows.{model_number, model_lengths, model_rows, changed_rows}
use Rattle.cow_models.proofs.model.CaseModel.decided.Goals as goal

pub rows_after-requires-clause-number : goal.rows_after-requires-clause-number
rows_after-requires-clause-number g c =
    let m = c.self.inside in
    model_number c.args.table.now m.way m.cube m.atoms m.start m.goal m.count m.rows c.self.invariant (subst (IsModelOf c.args.table.now) (sym c.self.view_is) c.requires.model)

pub rows_after-requires-clause-lengths : goal.rows_after-requires-clause-lengths
rows_after-requires-clause-lengths g c =
    let m = c.self.inside in
    model_lengths c.args.table.now m.way m.cube m.atoms m.start m.goal m.count m.rows c.self.invariant (subst (IsModelOf c.args.table.now) (sym c.self.view_is) c.requires.model)

pub assembled-requires-clause-number : goal.assembled-requires-clause-number
assembled-requires-clause-number g c =
    let m = c.self.inside in
    c.in_ok-rows.ensures.ok.same_number ∙ model_number c.args.table.now m.way m.cube m.atoms m.start m.goal m.count m.rows c.self.invariant (subst (IsModelOf c.args.table.now) (sym c.self.view_is) c.requires.model)

pub assembled-requires-clause-rows : goal.assembled-requires-clause-rows
assembled-requires-clause-rows g c =
    let m = c.self.inside in
    let table = c.args.table.now in
    let made = c.in_ok-rows.rows in
    let are = model_rows table m.way m.cube m.atoms m.start m.goal m.count m.rows c.self.invariant (subst (IsModelOf table) (sym c.self.view_is) c.requires.model) in
    subst (λ cube. AreRows (relaxed m.way table cube) made) (sym c.decide-cube.ensures.is)
    (changed_rows table m.cube m.way c.args.place c.args.side m.rows made are (subst (λ cube. AreChanged table cube m.way c.args.place m.rows made) c.decide-cube.ensures.is c.in_ok-rows.ensures.ok))

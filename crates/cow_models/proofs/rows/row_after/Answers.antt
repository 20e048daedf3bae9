use Rattle.std.proofs.Common.{◌≡◌, ◌*◌, sym, ◌∙◌}
use Rattle.std.proofs.lemmas.Result.{IfOk-weaker}
use Rattle.cow_models.specs.Changed.{IsChanged}
use Rattle.cow_models.proofs.KeptRows.{untouched}
use Rattle.cow_models.proofs.rows.row_after.Goals as goal

pub returns-else-touches_row-clause-ok : goal.returns-else-touches_row-clause-ok
returns-else-touches_row-clause-ok g c =
    IfOk-weaker c.share.result (λ row. row ≡ c.args.old.now) (IsChanged c.args.table.now c.args.cube.now c.args.way c.args.place (16 * c.args.row) c.args.old.now)
    (λ made same. untouched c.args.table.now c.args.cube.now c.args.way c.args.place c.args.row c.args.old.now made c.requires.length (sym c.touches_row.ensures ∙ c.if-touches_row.false) same) c.share.ensures

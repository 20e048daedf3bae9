use Rattle.std.proofs.Common.{[], ◌∷◌, ◌+◌, ap, length, length-append, arith}
use Rattle.cow_models.specs.Rows.{row_count}
use Rattle.cow_models.specs.Touched.{touches_row}
use Rattle.cow_models.proofs.RowLemmas.{count_next, count_le}
use Rattle.cow_models.proofs.KeptRows.{changed_push}
use Rattle.cow_models.proofs.rows.rows_after.Goals as goal

pub returns-in_err-row_after-clause-at_most : goal.returns-in_err-row_after-clause-at_most
returns-in_err-row_after-clause-at_most g c =
    omega (
      arith,
      c.loop-row.invariant.steps,
      c.row_after.ensures.steps,
      count_next (touches_row c.args.table.now c.args.place) c.loop-row.row,
      count_le (touches_row c.args.table.now c.args.place) (c.loop-row.row + 1) (row_count (length c.args.table.now.actions)) (omega (arith, c.requires.number, c.len-row-end.ensures, c.loop-row-test.true)),
    )

pub returns-in_err-push-clause-at_most : goal.returns-in_err-push-clause-at_most
returns-in_err-push-clause-at_most g c =
    omega (
      arith,
      c.loop-row.invariant.steps,
      c.row_after.ensures.steps,
      count_next (touches_row c.args.table.now c.args.place) c.loop-row.row,
      count_le (touches_row c.args.table.now c.args.place) (c.loop-row.row + 1) (row_count (length c.args.table.now.actions)) (omega (arith, c.requires.number, c.len-row-end.ensures, c.loop-row-test.true)),
    )

pub loop-row-preserved : goal.loop-row-preserved
loop-row-preserved g c =
    record {
      number = omega (arith, c.loop-row.invariant.number, ap length c.in_ok-push.ensures.ok, length-append c.loop-row.made (c.in_ok-row_after.field-0 ∷ []));
      each = changed_push c.args.table.now c.args.cube.now c.args.way c.args.place c.args.rows.now c.loop-row.made c.push.new.self c.loop-row.row c.item-old.result.now c.in_ok-row_after.field-0 c.in_ok-push.ensures.ok
          c.loop-row.invariant.number c.item-old.ensures c.in_ok-row_after.ensures.ok c.loop-row.invariant.each;
      steps = omega (arith, c.loop-row.invariant.steps, c.row_after.ensures.steps, count_next (touches_row c.args.table.now c.args.place) c.loop-row.row);
    }

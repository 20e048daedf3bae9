use Rattle.std.proofs.Common.{[], ◌∷◌, ap, length, length-append, arith}
use Rattle.case_kit.specs.Evaluated.{relaxed}
use Rattle.cow_models.proofs.KeptRows.{rows_push}
use Rattle.cow_models.proofs.rows.rows_of.Goals as goal

pub loop-row-preserved : goal.loop-row-preserved
loop-row-preserved g c =
    record {
      number = omega (arith, c.loop-row.invariant.number, ap length c.in_ok-push.ensures.ok, length-append c.loop-row.made (c.in_ok-made_row.field-0 ∷ []));
      each = rows_push (relaxed c.args.way c.args.table.now c.args.cube.now) c.loop-row.made c.push.new.self c.in_ok-made_row.field-0 c.loop-row.row c.in_ok-push.ensures.ok
          c.loop-row.invariant.number c.loop-row.invariant.each c.in_ok-made_row.ensures.ok;
      steps = omega (arith, c.loop-row.invariant.steps, c.made_row.ensures.steps);
    }

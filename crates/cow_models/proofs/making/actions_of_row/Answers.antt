use Rattle.std.proofs.Common.{[], ◌∷◌, ◌*◌, ap, length, length-append, arith}
use Rattle.case_kit.specs.Evaluated.{relaxed}
use Rattle.cow_models.proofs.KeptRows.{from_push}
use Rattle.cow_models.proofs.making.actions_of_row.Goals as goal

pub loop-place-preserved : goal.loop-place-preserved
loop-place-preserved c =
    record {
      number = omega (arith, c.loop-place.invariant.number, ap length c.in_ok-push.ensures.ok, length-append c.loop-place.made (c.in_ok-action_by.field-0 ∷ []));
      each = from_push (relaxed c.args.way c.args.table.now c.args.cube.now) (16 * c.args.row) c.loop-place.made c.push.new.self c.in_ok-action_by.field-0 c.loop-place.place c.in_ok-push.ensures.ok
          c.loop-place.invariant.number c.loop-place.invariant.each (record { is = c.in_ok-action_by.ensures.is; in_range = c.in_ok-action_by.ensures.in_range });
    }

use Rattle.std.proofs.Common.{Some, subst}
use Rattle.std.specs.BTreeMap.{Updates}
use Rattle.feature_diff.specs.Rows.{form_cmp}
use Rattle.feature_diff.proofs.RowLemmas.{user_noted}
use Rattle.feature_diff.proofs.rows.add_user_place.Goals as goal

pub returns : goal.returns
returns c = record {
  ok = λ planner user m.
      user_noted c.args.table.now c.insert.new.self (record { text = c.in_ok-copy.field-0 }) c.args.form.now c.args.place c.in_ok-copy.ensures.ok planner user
      (subst (λ spots. Updates form_cmp c.args.table.now c.insert.new.self (record { text = c.in_ok-copy.field-0 }) (Some (record { planner = spots.planner; user = Some c.args.place }))) c.spots_at.ensures c.in_ok-insert.ensures.updates) m;
}

use Rattle.std.proofs.Common.{Some, subst}
use Rattle.std.specs.BTreeMap.{Updates}
use Rattle.feature_diff.specs.Rows.{form_cmp}
use Rattle.feature_diff.proofs.RowLemmas.{planner_noted}
use Rattle.feature_diff.proofs.rows.add_planner_place.Goals as goal

pub returns : goal.returns
returns c = record {
  ok = λ planner user n.
      planner_noted c.args.table.now c.insert.new.self (record { text = c.in_ok-copy.field-0 }) c.args.form.now c.args.place c.in_ok-copy.ensures.ok planner user
      (subst (λ spots. Updates form_cmp c.args.table.now c.insert.new.self (record { text = c.in_ok-copy.field-0 }) (Some (record { planner = Some c.args.place; user = spots.user }))) c.spots_at.ensures c.in_ok-insert.ensures.updates) n;
}

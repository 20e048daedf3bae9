use Rattle.std.proofs.Common.{◌<◌, ◌%◌, length, subst, ap, arith}
use Rattle.std.proofs.lemmas.Option.{slice_get_within}
use Rattle.mre_base.proofs.Options.{one_item}
use Rattle.cow_models.specs.Models.{ModelMeaning}
use Rattle.cow_models.specs.Rows.{IsAt}
use Rattle.cow_models.proofs.KeptRows.{kept_count, placed, action_kept}
use Rattle.cow_models.proofs.model.CaseModel.action.Goals as goal

pub item-requires : goal.item-requires
item-requires c =
    let m = c.self.inside in
    let few : c.args.action < m.count = omega (arith, c.requires, kept_count m.atoms m.start m.goal m.count m.rows c.self.invariant, ap (λ (v : ModelMeaning). length v.task.actions) c.self.view_is) in
    let row = placed m.rows m.count c.args.action c.self.invariant.number c.self.invariant.lengths few in
    slice_get_within m.rows _ row.0 row.1

pub action-requires : goal.action-requires
action-requires c =
    let m = c.self.inside in
    let few : c.args.action < m.count = omega (arith, c.requires, kept_count m.atoms m.start m.goal m.count m.rows c.self.invariant, ap (λ (v : ModelMeaning). length v.task.actions) c.self.view_is) in
    let row = placed m.rows m.count c.args.action c.self.invariant.number c.self.invariant.lengths few in
    subst (λ xs. c.args.action % 16 < length xs) (one_item _ row.0 c.item.result.now row.1 c.item.ensures) row.2

pub returns-clause-is : goal.returns-clause-is
returns-clause-is c =
    let m = c.self.inside in
    let few : c.args.action < m.count = omega (arith, c.requires, kept_count m.atoms m.start m.goal m.count m.rows c.self.invariant, ap (λ (v : ModelMeaning). length v.task.actions) c.self.view_is) in
    (subst (λ (v : ModelMeaning). IsAt v.task c.args.action c.action.result.now) c.self.view_is (action_kept m.atoms m.start m.goal m.count m.rows c.self.invariant c.args.action c.item.result.now c.action.result.now few c.item.ensures c.action.ensures)).is

pub returns-clause-in_range : goal.returns-clause-in_range
returns-clause-in_range c =
    let m = c.self.inside in
    let few : c.args.action < m.count = omega (arith, c.requires, kept_count m.atoms m.start m.goal m.count m.rows c.self.invariant, ap (λ (v : ModelMeaning). length v.task.actions) c.self.view_is) in
    (subst (λ (v : ModelMeaning). IsAt v.task c.args.action c.action.result.now) c.self.view_is (action_kept m.atoms m.start m.goal m.count m.rows c.self.invariant c.args.action c.item.result.now c.action.result.now few c.item.ensures c.action.ensures)).in_range

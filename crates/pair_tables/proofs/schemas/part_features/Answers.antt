use Rattle.std.proofs.Common.{◌<◌, ◌∙◌, length, sym, ap, subst}
use Rattle.std.specs.Prelude.{slice_get}
use Rattle.pair_tables.proofs.SchemaLemmas.{parts_are, schema_within}
use Rattle.pair_tables.proofs.schemas.part_features.Goals as goal

pub item-requires : goal.item-requires
item-requires c = schema_within c.args.pair.now.planner c.planner.result.now c.args.action c.planner.ensures c.requires.listed

pub item-requires-2 : goal.item-requires-2
item-requires-2 c =
    schema_within c.args.pair.now.user c.user.result.now c.args.action c.user.ensures (subst (λ w. c.args.action < length w.actions) (sym c.args.pair.now.joint) c.requires.listed)

pub returns : goal.returns
returns c =
    parts_are c.args.pair.now.planner c.args.pair.now.user c.args.differences.now c.requires.all c.args.part c.args.action c.item.result.now c.item-2.result.now
    (ap (λ m. slice_get m.schemas c.args.action) (sym c.planner.ensures) ∙ c.item.ensures) (ap (λ m. slice_get m.schemas c.args.action) (sym c.user.ensures) ∙ c.item-2.ensures)
    c.atoms_in-planner.result.now c.atoms_in-user.result.now c.atoms_in-planner.ensures c.atoms_in-user.ensures c.in_ok-features_of.field-0 c.in_ok-features_of.ensures

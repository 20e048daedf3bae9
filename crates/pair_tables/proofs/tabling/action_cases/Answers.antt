use Rattle.std.proofs.Common.{sym, subst}
use Rattle.model_kit.specs.declared.atom.SchemaAtom.{SchemaAtom}
use Rattle.model_kit.specs.Places.{Pre, Add, Del}
use Rattle.model_kit.specs.Runs.{instance}
use Rattle.feature_diff.specs.declared.schema_parts.SchemaPart.TheVariants as part
use Rattle.named_tables.specs.Models.{Models}
use Rattle.named_tables.specs.Tables.{AreCases}
use Rattle.pair_rules.specs.Ruled.{models_of}
use Rattle.pair_tables.specs.Numbers.{number_by}
use Rattle.pair_tables.proofs.FeatureLemmas.{are_cases}
use Rattle.pair_tables.proofs.PlacedLemmas.{features_placed}
use Rattle.pair_tables.proofs.tabling.action_cases.Goals as goal

pub part_cases-requires : goal.part_cases-requires
part_cases-requires c =
    let pair = c.args.pair.now in
    let cases = c.requires.schemas.each c.args.action.now.schema c.item-cases.result.now c.item-cases.ensures in
    record { placed = features_placed pair.planner pair.user pair.joint c.args.differences.now c.args.action.now c.requires.done.fits part.Pre c.item-cases.result.now.pre cases.pre }

pub part_cases-requires-2 : goal.part_cases-requires-2
part_cases-requires-2 c =
    let pair = c.args.pair.now in
    let cases = c.requires.schemas.each c.args.action.now.schema c.item-cases.result.now c.item-cases.ensures in
    record { placed = features_placed pair.planner pair.user pair.joint c.args.differences.now c.args.action.now c.requires.done.fits part.Add c.item-cases.result.now.add cases.add }

pub part_cases-requires-3 : goal.part_cases-requires-3
part_cases-requires-3 c =
    let pair = c.args.pair.now in
    let cases = c.requires.schemas.each c.args.action.now.schema c.item-cases.result.now c.item-cases.ensures in
    record { placed = features_placed pair.planner pair.user pair.joint c.args.differences.now c.args.action.now c.requires.done.fits part.Del c.item-cases.result.now.del cases.del }

pub cost_case-requires-clause-cases : goal.cost_case-requires-clause-cases
cost_case-requires-clause-cases c = c.requires.schemas.each c.args.action.now.schema c.item-cases.result.now c.item-cases.ensures

pub returns : goal.returns
returns c =
    let models : Models = models_of c.args.pair.now.planner c.args.pair.now.user c.args.differences.now in
    let number = number_by c.args.numbers.now in
    let action = c.args.action.now in
    let cases = c.item-cases.result.now in
    let is = c.requires.schemas.each action.schema cases c.item-cases.ensures in
    record {
      pre = subst (AreCases models number SchemaAtom (Pre action.schema) (instance action.objects)) (sym c.in_ok-part_cases.ensures) (are_cases models number SchemaAtom (Pre action.schema) (instance action.objects) cases.pre is.pre);
      add = subst (AreCases models number SchemaAtom (Add action.schema) (instance action.objects)) (sym c.in_ok-part_cases-2.ensures) (are_cases models number SchemaAtom (Add action.schema) (instance action.objects) cases.add is.add);
      del = subst (AreCases models number SchemaAtom (Del action.schema) (instance action.objects)) (sym c.in_ok-part_cases-3.ensures) (are_cases models number SchemaAtom (Del action.schema) (instance action.objects) cases.del is.del);
      known = is.known c.requires.done.known;
      cost = c.in_ok-cost_case.ensures;
    }

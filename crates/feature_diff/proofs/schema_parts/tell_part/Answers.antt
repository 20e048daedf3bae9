use Rattle.std.proofs.Common.{◌<◌, ◌^◌, length, refl, sym, subst, arith}
use Rattle.std.specs.Prelude.{All}
use Rattle.std.proofs.lemmas.Result.{on_ok_weaker}
use Rattle.model_kit.specs.Vocabulary.{IsSchemaAtom}
use Rattle.feature_diff.proofs.PartLemmas.{schema_numbered, part_fits, part_atoms, part_gained}
use Rattle.feature_diff.proofs.schema_parts.tell_part.Goals as goal

pub item-requires : goal.item-requires
item-requires c = schema_numbered c.args.planner.now.words c.args.planner.now refl c.args.kind.action c.requires.listed

pub item-requires-2 : goal.item-requires-2
item-requires-2 c = schema_numbered c.args.planner.now.words c.args.user.now c.requires.joint c.args.kind.action c.requires.listed

pub tell-requires-clause-planner_fits : goal.tell-requires-clause-planner_fits
tell-requires-clause-planner_fits c =
    subst (All (IsSchemaAtom c.args.planner.now.words)) (sym c.atoms_in.ensures)
    (part_atoms c.args.planner.now.words c.item-signature.result.now.params _
    (part_fits c.args.planner.now.words c.args.planner.now refl c.args.kind.action c.item.result.now c.item-signature.result.now c.item.ensures c.item-signature.ensures c.args.kind.part))

pub tell-requires-clause-user_fits : goal.tell-requires-clause-user_fits
tell-requires-clause-user_fits c =
    subst (All (IsSchemaAtom c.args.planner.now.words)) (sym c.atoms_in-2.ensures)
    (part_atoms c.args.planner.now.words c.item-signature.result.now.params _
    (part_fits c.args.planner.now.words c.args.user.now c.requires.joint c.args.kind.action c.item-2.result.now c.item-signature.result.now c.item-2.ensures c.item-signature.ensures c.args.kind.part))

pub returns : goal.returns
returns c =
    let few : length c.item-signature.result.now.params < 2 ^ 64 = omega (arith, c.len.ensures) in
    record {
      ok =
          on_ok_weaker c.tell.result
          (part_gained c.args.planner.now c.args.user.now c.requires.joint c.args.kind.action c.item.result.now c.item-2.result.now c.item-signature.result.now few c.item.ensures c.item-2.ensures c.item-signature.ensures
          c.args.kind.part c.atoms_in.result.now c.atoms_in-2.result.now c.atoms_in.ensures c.atoms_in-2.ensures c.args.gathered.now c.tell.new.gathered)
          c.tell.ensures.ok;
    }

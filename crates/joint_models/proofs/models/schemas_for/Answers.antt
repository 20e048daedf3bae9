use Rattle.std.proofs.Common.{◌++◌, ◌∷◌, [], subst, sym}
use Rattle.mre_base.proofs.Loops.{take_item}
use Rattle.joint_models.specs.Renaming.{AreSchemasFor}
use Rattle.joint_models.proofs.Schemas.{schemas_more}
use Rattle.joint_models.proofs.models.schemas_for.Goals as goal

pub loop-place-preserved : goal.loop-place-preserved
loop-place-preserved c =
    let own = c.args.own.model.now in
    let other = c.args.other.model.now in
    let actions = take_item c.args.actions.now c.loop-place.place c.item.result.now c.item.ensures in
    subst (AreSchemasFor own c.args.own.numbers.now other c.args.other.numbers.now _) (sym c.in_ok-push.ensures.ok)
    (subst (λ as'. AreSchemasFor own c.args.own.numbers.now other c.args.other.numbers.now as' (c.loop-place.schemas ++ c.in_ok-schema_for.field-0 ∷ [])) (sym actions)
    (schemas_more own c.args.own.numbers.now other c.args.other.numbers.now _ c.loop-place.schemas c.item.result.now c.in_ok-schema_for.field-0 c.loop-place.invariant c.in_ok-schema_for.ensures.ok))

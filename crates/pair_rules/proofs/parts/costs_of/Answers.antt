use Rattle.std.proofs.Common.{◌∙◌, [], ◌∷◌}
use Rattle.pair_rules.specs.Made.{user_cost}
use Rattle.pair_rules.proofs.PartLemmas.{picked, passed}
use Rattle.pair_rules.proofs.parts.costs_of.Goals.{in-Some+in_ok-copied-2+in_ok-push-2, in_default}
use Rattle.pair_rules.proofs.parts.costs_of.Goals as goal

pub loop-place-preserved : goal.loop-place-preserved
loop-place-preserved c =
    elim c.match-user_cost.branch [
      | in-Some+in_ok-copied-2+in_ok-push-2 w ↦
          picked c.args.differences.now c.loop-place.place c.item.result.now c.item.ensures (user_cost c.args.action) (c.args.cost.now ∷ []) c.loop-place.made c.loop-place.invariant _ _ w.in_ok-copied-2.field-0 w.in-Some.ensures.some w.in_ok-copied-2.ensures.ok (w.made-is ∙ w.in_ok-push-2.ensures.ok)
      | in_default w ↦
          w.made-is ∙ passed c.args.differences.now c.loop-place.place c.item.result.now c.item.ensures (user_cost c.args.action) (c.args.cost.now ∷ []) c.loop-place.made c.loop-place.invariant w.in_default.ensures.none
    ]

use Rattle.std.proofs.Common.{◌∙◌}
use Rattle.pair_rules.specs.Made.{user_add}
use Rattle.pair_rules.proofs.PartLemmas.{picked, passed}
use Rattle.pair_rules.proofs.parts.adds_of.Goals.{in-Some+in_ok-copied+in_ok-push, in_default}
use Rattle.pair_rules.proofs.parts.adds_of.Goals as goal

pub loop-place-preserved : goal.loop-place-preserved
loop-place-preserved c =
    elim c.match-user_add.branch [
      | in-Some+in_ok-copied+in_ok-push w ↦
          picked c.args.differences.now c.loop-place.place c.item.result.now c.item.ensures (user_add c.args.action) c.args.add.now c.loop-place.made c.loop-place.invariant _ _ w.in_ok-copied.field-0 w.in-Some.ensures.some w.in_ok-copied.ensures.ok (w.made-is ∙ w.in_ok-push.ensures.ok)
      | in_default w ↦
          w.made-is ∙ passed c.args.differences.now c.loop-place.place c.item.result.now c.item.ensures (user_add c.args.action) c.args.add.now c.loop-place.made c.loop-place.invariant w.in_default.ensures.none
    ]

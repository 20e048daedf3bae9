use Rattle.std.proofs.Common.{◌∙◌, ap, map}
use Rattle.pair_rules.specs.Made.{user_key, key_of}
use Rattle.pair_rules.proofs.PartLemmas.{picked, passed}
use Rattle.pair_rules.proofs.parts.keys_of.Goals.{in-Some+in_ok-copy+in_ok-push, in_default}
use Rattle.pair_rules.proofs.parts.keys_of.Goals as goal

pub loop-place-preserved : goal.loop-place-preserved
loop-place-preserved c =
    elim c.match-user_key.branch [
      | in-Some+in_ok-copy+in_ok-push w ↦
          picked c.args.differences.now c.loop-place.place c.item.result.now c.item.ensures user_key (map key_of c.args.values.now) c.loop-place.made c.loop-place.invariant _ _ _ w.in-Some.ensures.some (ap (λ objects. (w.in-Some.function, objects)) w.in_ok-copy.ensures.ok) (w.made-is ∙ w.in_ok-push.ensures.ok)
      | in_default w ↦
          w.made-is ∙ passed c.args.differences.now c.loop-place.place c.item.result.now c.item.ensures user_key (map key_of c.args.values.now) c.loop-place.made c.loop-place.invariant w.in_default.ensures.none
    ]

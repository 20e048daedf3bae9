use Rattle.std.proofs.Common.{sym, ap, ◌∙◌, ◌++◌, map, drop, ◌+◌}
use Rattle.mre_base.proofs.Loops.{drop_item}
use Rattle.pddl_vocabulary.specs.Values.{actions_in}
use Rattle.pddl_models.specs.Says.{body_said}
use Rattle.pddl_models.proofs.SayingLemmas.{put_more, actions_more, actions_same}
use Rattle.pddl_models.proofs.bodies.bodies_of.Goals as goal

pub loop-place-preserved-then-not-is_action : goal.loop-place-preserved-then-not-is_action
loop-place-preserved-then-not-is_action c =
    sym (ap (λ acts. c.loop-place.made ++ map (body_said c.args.words.now) acts)
    (ap actions_in (drop_item c.args.said.now c.loop-place.place c.item.result.now c.item.ensures)
    ∙ actions_same c.item.result.now (drop (c.loop-place.place + 1) c.args.said.now) (sym c.is_action.ensures ∙ c.if-not-is_action.true)))
    ∙ c.loop-place.invariant

pub loop-place-preserved : goal.loop-place-preserved
loop-place-preserved c =
    put_more (body_said c.args.words.now) c.loop-place.made _ _ (c.item.result.now.text, drop (c.loop-place.place + 1) c.args.said.now) _ _ _ c.in_ok-push.ensures.ok
    (c.in_ok-body_said.ensures.ok c.args.words.now c.item.result.now.text c.in_ok-tables.ensures.ok)
    (ap actions_in (drop_item c.args.said.now c.loop-place.place c.item.result.now c.item.ensures)
    ∙ actions_more c.item.result.now (drop (c.loop-place.place + 1) c.args.said.now) (sym c.is_action.ensures ∙ c.if-not-is_action.false))
    c.loop-place.invariant

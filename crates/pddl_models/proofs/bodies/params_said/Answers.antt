use Rattle.std.proofs.Common.{sym, ◌∙◌, arith}
use Rattle.std.proofs.lemmas.List.{length-append}
use Rattle.pddl_models.proofs.SayingLemmas.{names_more, names_same, names_end}
use Rattle.pddl_models.proofs.bodies.params_said.Goals as goal

pub returns-then-is_action-clause-names : goal.returns-then-is_action-clause-names
returns-then-is_action-clause-names c =
    names_end c.args.said.now c.loop-place.place c.item-word.result.now c.item-word.ensures c.loop-place.made _ (sym c.is_action.ensures ∙ c.if-is_action.true) c.loop-place.invariant.names

pub loop-place-preserved-then-not-is_param : goal.loop-place-preserved-then-not-is_param
loop-place-preserved-then-not-is_param c = record {
  names = names_same c.args.said.now c.loop-place.place c.item-word.result.now c.item-word.ensures c.loop-place.made _
      (sym c.is_action.ensures ∙ c.if-is_action.false) (sym c.is_param.ensures ∙ c.if-not-is_param.true) c.loop-place.invariant.names;
  so_far = omega (arith, c.loop-place.invariant.so_far);
  few = c.loop-place.invariant.few;
}

pub loop-place-preserved : goal.loop-place-preserved
loop-place-preserved c = record {
  names = names_more c.args.said.now c.loop-place.place c.item-word.result.now c.item-word.ensures c.loop-place.made _ c.push.new.self (c.in_ok-copy.field-0, 0)
      c.in_ok-push.ensures.ok c.in_ok-copy.ensures.ok (sym c.is_param.ensures ∙ c.if-not-is_param.false) c.loop-place.invariant.names;
  so_far = rw c.in_ok-push.ensures.ok (rw length-append (omega (arith, c.loop-place.invariant.so_far)));
  few = rw c.in_ok-push.ensures.ok (rw length-append (omega (arith, c.loop-place.invariant.so_far)));
}

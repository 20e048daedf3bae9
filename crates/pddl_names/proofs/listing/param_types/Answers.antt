use Rattle.std.proofs.Common.{sym, ◌∙◌}
use Rattle.pddl_names.proofs.KnownLemmas.{types_more, types_passed, types_stop, type_told}
use Rattle.pddl_names.proofs.listing.param_types.Goals as goal

pub loop-place-preserved-then-is_variable : goal.loop-place-preserved-then-is_variable
loop-place-preserved-then-is_variable c =
    types_more c.args.words.now c.args.start c.loop-place.place c.item.result.now c.item.ensures c.loop-place.made c.push.new.self _
    (sym c.is_variable.ensures ∙ c.if-is_variable.true) c.loop-place.invariant c.in_ok-push.ensures.ok
    (type_told c.args.words.now c.args.places.now.items c.requires.places c.loop-place.place c.item.result.now c.item.ensures c.index.result.now c.index.ensures
    c.in_ok-text_at.field-0 c.in_ok-text_at.ensures.ok)

pub returns-then-not-is_group : goal.returns-then-not-is_group
returns-then-not-is_group c = record {
  ok = types_stop c.args.words.now c.args.start c.loop-place.place c.item.result.now c.item.ensures c.loop-place.made
      (sym c.is_variable.ensures ∙ c.if-is_variable.false) (sym c.is_group.ensures ∙ c.if-not-is_group.true) c.loop-place.invariant;
}

pub loop-place-preserved : goal.loop-place-preserved
loop-place-preserved c =
    types_passed c.args.words.now c.args.start c.loop-place.place c.item.result.now c.item.ensures c.loop-place.made
    (sym c.is_group.ensures ∙ c.if-not-is_group.false) c.loop-place.invariant

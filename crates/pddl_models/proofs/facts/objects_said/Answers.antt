use Rattle.std.proofs.Common.{sym, ap, ◌∙◌}
use Rattle.mre_base.proofs.Loops.{drop_item}
use Rattle.pddl_names.specs.Listings.{terms_behind}
use Rattle.pddl_vocabulary.specs.Values.{place_in}
use Rattle.pddl_models.proofs.SayingLemmas.{put_more, put_end, terms_more, terms_end}
use Rattle.pddl_models.proofs.facts.objects_said.Goals as goal

pub returns-then-not-is_term : goal.returns-then-not-is_term
returns-then-not-is_term c = record {
  ok = λ things objects.
      put_end (place_in things) c.loop-place.made _ _
      (ap terms_behind (drop_item c.args.said.now c.loop-place.place c.item-word.result.now c.item-word.ensures) ∙ terms_end c.item-word.result.now _ (sym c.is_term.ensures ∙ c.if-not-is_term.true))
      (c.loop-place.invariant things objects);
}

pub loop-place-preserved : goal.loop-place-preserved
loop-place-preserved c = λ things objects.
    put_more (place_in things) c.loop-place.made _ _ c.item-word.result.now.text _ _ _ c.in_ok-push.ensures.ok (c.place_in.ensures things objects)
    (ap terms_behind (drop_item c.args.said.now c.loop-place.place c.item-word.result.now c.item-word.ensures) ∙ terms_more c.item-word.result.now _ (sym c.is_term.ensures ∙ c.if-not-is_term.false))
    (c.loop-place.invariant things objects)

use Rattle.std.proofs.Common.{sym, ap, ◌∙◌}
use Rattle.mre_base.proofs.Loops.{drop_item}
use Rattle.pddl_names.specs.Listings.{terms_behind}
use Rattle.pddl_models.specs.Says.{term_said}
use Rattle.pddl_models.proofs.SayingLemmas.{put_more, put_end, terms_more, terms_end}
use Rattle.pddl_models.proofs.atoms_said.terms_said.Goals as goal

pub returns-then-not-is_term : goal.returns-then-not-is_term
returns-then-not-is_term c = record {
  ok = λ things own objects params.
      put_end (term_said things own) c.loop-place.made _ _
      (ap terms_behind (drop_item c.args.said.now c.loop-place.place c.item-word.result.now c.item-word.ensures) ∙ terms_end c.item-word.result.now _ (sym c.is_term.ensures ∙ c.if-not-is_term.true))
      (c.loop-place.invariant things own objects params);
}

pub loop-place-preserved : goal.loop-place-preserved
loop-place-preserved c = λ things own objects params.
    put_more (term_said things own) c.loop-place.made _ _ c.item-word.result.now.text _ _ _ c.in_ok-push.ensures.ok (c.term_said.ensures things own objects params)
    (ap terms_behind (drop_item c.args.said.now c.loop-place.place c.item-word.result.now c.item-word.ensures) ∙ terms_more c.item-word.result.now _ (sym c.is_term.ensures ∙ c.if-not-is_term.false))
    (c.loop-place.invariant things own objects params)

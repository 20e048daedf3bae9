use Rattle.std.proofs.Common.{sym, ap, ◌∙◌, drop, ◌+◌}
use Rattle.std.specs.Prelude.{slice_get}
use Rattle.model_kit.specs.Features.{same_key}
use Rattle.mre_base.proofs.Loops.{drop_item}
use Rattle.mre_base.proofs.Options.{of_some}
use Rattle.pddl_models.specs.Unrepeated.{value_key}
use Rattle.pddl_names.specs.Listings.{terms_behind, number_behind, values_in}
use Rattle.pddl_models.specs.Says.{value_said}
use Rattle.pddl_models.proofs.KeptLemmas.{seen_none, fold_start, same_by-trans}
use Rattle.pddl_models.proofs.SayingLemmas.{first_more, first_same, values_more, values_same}
use Rattle.pddl_models.proofs.facts.values_said.Goals as goal

pub loop-place-init : goal.loop-place-init
loop-place-init c = record {
  seen = seen_none value_key c.empty-made.result c.nothing-seen.result c.empty-made.ensures c.nothing-seen.ensures;
  rest = λ words tables. fold_start same_key (same_by-trans value_key) c.empty-made.result _ c.empty-made.ensures;
}

pub loop-place-preserved-then-not-is_value : goal.loop-place-preserved-then-not-is_value
loop-place-preserved-then-not-is_value c = record {
  seen = c.loop-place.invariant.seen;
  rest = λ words tables.
      first_same same_key (value_said words) _ c.loop-place.made _ _
      (ap values_in (drop_item c.args.said.now c.loop-place.place c.item.result.now c.item.ensures)
      ∙ values_same c.item.result.now (drop (c.loop-place.place + 1) c.args.said.now) (sym c.is_value.ensures ∙ c.if-not-is_value.true))
      (c.loop-place.invariant.rest words tables);
}

pub loop-place-preserved : goal.loop-place-preserved
loop-place-preserved c = record {
  seen = c.in_ok-push_first.ensures.seen;
  rest = λ words tables.
      first_more same_key (value_said words) _ c.loop-place.made c.push_first.new.made c.in_ok-value.value
      ((c.item.result.now.text, terms_behind (drop (c.loop-place.place + 1) c.args.said.now)), number_behind (drop (c.loop-place.place + 1) c.args.said.now)) _ _
      c.in_ok-push_first.ensures.made
      (of_some (slice_get c.args.said.now c.loop-place.place) c.item.result.now _ c.item.ensures (c.in_ok-value.ensures.ok words tables))
      (ap values_in (drop_item c.args.said.now c.loop-place.place c.item.result.now c.item.ensures)
      ∙ values_more c.item.result.now (drop (c.loop-place.place + 1) c.args.said.now) (sym c.is_value.ensures ∙ c.if-not-is_value.false))
      (c.loop-place.invariant.rest words tables);
}

use Rattle.std.proofs.Common.{sym, ap, ◌∙◌, drop, ◌+◌}
use Rattle.std.specs.Prelude.{slice_get}
use Rattle.model_kit.specs.Same.{same_atom}
use Rattle.mre_base.proofs.Loops.{drop_item}
use Rattle.mre_base.proofs.Options.{of_some}
use Rattle.pddl_models.specs.Unrepeated.{atom_key}
use Rattle.pddl_names.specs.Listings.{terms_behind}
use Rattle.pddl_models.specs.Says.{ground_atom_said, atoms_in}
use Rattle.pddl_models.proofs.KeptLemmas.{seen_none, fold_start, same_by-trans}
use Rattle.pddl_models.proofs.SayingLemmas.{first_more, first_same, atoms_more, atoms_same}
use Rattle.pddl_models.proofs.facts.facts_said.Goals as goal

pub loop-place-init : goal.loop-place-init
loop-place-init c = record {
  seen = seen_none atom_key c.empty-made.result c.nothing-seen.result c.empty-made.ensures c.nothing-seen.ensures;
  rest = λ words tables. fold_start same_atom (same_by-trans atom_key) c.empty-made.result _ c.empty-made.ensures;
}

pub loop-place-preserved-then-not-is_saying : goal.loop-place-preserved-then-not-is_saying
loop-place-preserved-then-not-is_saying c = record {
  seen = c.loop-place.invariant.seen;
  rest = λ words tables.
      first_same same_atom (ground_atom_said words) _ c.loop-place.made _ _
      (ap (atoms_in c.args.due) (drop_item c.args.said.now c.loop-place.place c.item.result.now c.item.ensures)
      ∙ atoms_same c.args.due c.item.result.now (drop (c.loop-place.place + 1) c.args.said.now) (sym c.is_saying.ensures ∙ c.if-not-is_saying.true))
      (c.loop-place.invariant.rest words tables);
}

pub loop-place-preserved : goal.loop-place-preserved
loop-place-preserved c = record {
  seen = c.in_ok-push_first.ensures.seen;
  rest = λ words tables.
      first_more same_atom (ground_atom_said words) _ c.loop-place.made c.push_first.new.made c.in_ok-fact.fact
      (c.item.result.now.text, terms_behind (drop (c.loop-place.place + 1) c.args.said.now)) _ _
      c.in_ok-push_first.ensures.made
      (of_some (slice_get c.args.said.now c.loop-place.place) c.item.result.now _ c.item.ensures (c.in_ok-fact.ensures.ok words tables))
      (ap (atoms_in c.args.due) (drop_item c.args.said.now c.loop-place.place c.item.result.now c.item.ensures)
      ∙ atoms_more c.args.due c.item.result.now (drop (c.loop-place.place + 1) c.args.said.now) (sym c.is_saying.ensures ∙ c.if-not-is_saying.false))
      (c.loop-place.invariant.rest words tables);
}

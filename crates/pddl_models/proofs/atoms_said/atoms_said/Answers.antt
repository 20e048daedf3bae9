use Rattle.std.proofs.Common.{sym, ap, ◌∙◌, drop, ◌+◌}
use Rattle.std.specs.Prelude.{slice_get}
use Rattle.model_kit.specs.Same.{same_schema_atom}
use Rattle.mre_base.proofs.Loops.{drop_item}
use Rattle.mre_base.proofs.Options.{of_some}
use Rattle.pddl_models.specs.Unrepeated.{schema_atom_key}
use Rattle.pddl_names.specs.Listings.{terms_behind}
use Rattle.pddl_vocabulary.specs.Values.{words_named, names_of}
use Rattle.pddl_models.specs.Says.{schema_atom_said, atoms_in, own_words}
use Rattle.pddl_models.proofs.KeptLemmas.{seen_none, fold_start, same_schema-trans, with_same}
use Rattle.pddl_models.proofs.SayingLemmas.{first_more, first_same, first_end, own_atoms_more, own_atoms_same, own_atoms_end}
use Rattle.pddl_models.proofs.atoms_said.atoms_said.Goals as goal

pub loop-place-init : goal.loop-place-init
loop-place-init c = record {
  seen = seen_none schema_atom_key c.empty-made.result c.nothing-seen.result c.empty-made.ensures c.nothing-seen.ensures;
  rest = λ words own tables params. fold_start same_schema_atom same_schema-trans c.empty-made.result _ c.empty-made.ensures;
}

pub returns-then-is_action : goal.returns-then-is_action
returns-then-is_action c = record {
  ok = λ words own tables params.
      first_end same_schema_atom (schema_atom_said (words_named words.predicates) (names_of words.objects) own) _ c.loop-place.made _
      (ap (λ ws. atoms_in c.args.due (own_words ws)) (drop_item c.args.said.now c.loop-place.place c.item.result.now c.item.ensures)
      ∙ own_atoms_end c.args.due c.item.result.now (drop (c.loop-place.place + 1) c.args.said.now) (sym c.is_action.ensures ∙ c.if-is_action.true))
      (c.loop-place.invariant.rest words own tables params);
}

pub loop-place-preserved-then-not-is_saying : goal.loop-place-preserved-then-not-is_saying
loop-place-preserved-then-not-is_saying c = record {
  seen = c.loop-place.invariant.seen;
  rest = λ words own tables params.
      first_same same_schema_atom (schema_atom_said (words_named words.predicates) (names_of words.objects) own) _ c.loop-place.made _ _
      (ap (λ ws. atoms_in c.args.due (own_words ws)) (drop_item c.args.said.now c.loop-place.place c.item.result.now c.item.ensures)
      ∙ own_atoms_same c.args.due c.item.result.now (drop (c.loop-place.place + 1) c.args.said.now) (sym c.is_action.ensures ∙ c.if-is_action.false) (sym c.is_saying.ensures ∙ c.if-not-is_saying.true))
      (c.loop-place.invariant.rest words own tables params);
}

pub loop-place-preserved : goal.loop-place-preserved
loop-place-preserved c = record {
  seen = c.in_ok-push_first.ensures.seen;
  rest = λ words own tables params.
      first_more same_schema_atom (schema_atom_said (words_named words.predicates) (names_of words.objects) own) _ c.loop-place.made c.push_first.new.made c.in_ok-atom.atom
      (c.item.result.now.text, terms_behind (drop (c.loop-place.place + 1) c.args.said.now)) _ _
      (c.in_ok-push_first.ensures.made ∙ with_same c.loop-place.made c.in_ok-atom.atom)
      (of_some (slice_get c.args.said.now c.loop-place.place) c.item.result.now _ c.item.ensures (c.in_ok-atom.ensures.ok words own tables params))
      (ap (λ ws. atoms_in c.args.due (own_words ws)) (drop_item c.args.said.now c.loop-place.place c.item.result.now c.item.ensures)
      ∙ own_atoms_more c.args.due c.item.result.now (drop (c.loop-place.place + 1) c.args.said.now) (sym c.is_action.ensures ∙ c.if-is_action.false) (sym c.is_saying.ensures ∙ c.if-not-is_saying.false))
      (c.loop-place.invariant.rest words own tables params);
}

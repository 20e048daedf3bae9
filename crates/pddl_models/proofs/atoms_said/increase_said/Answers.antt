use Rattle.std.proofs.Common.{sym, ap, ◌∙◌, drop, ◌+◌, Some}
use Rattle.model_kit.specs.declared.model.CostExpr.TheVariants.{Call}
use Rattle.mre_base.proofs.Loops.{drop_item}
use Rattle.pddl_names.specs.Params.{is_action_name}
use Rattle.pddl_vocabulary.specs.Values.{words_named, names_of}
use Rattle.pddl_models.specs.Says.{increase_in, own_words}
use Rattle.pddl_models.proofs.SayingLemmas.{increase_end, increase_more, increase_numeral, increase_call, not_act, not_cost}
use Rattle.pddl_models.proofs.atoms_said.increase_said.Goals as goal

pub returns-in-Action : goal.returns-in-Action
returns-in-Action c = record {
  ok = λ words own tables params.
      sym (increase_end (words_named words.functions) (names_of words.objects) own c.item-word.result.now (drop (c.loop-place.place + 1) c.args.said.now) (ap is_action_name c.in-Action.is))
      ∙ sym (ap (λ ws. increase_in (words_named words.functions) (names_of words.objects) own (own_words ws)) (drop_item c.args.said.now c.loop-place.place c.item-word.result.now c.item-word.ensures))
      ∙ c.loop-place.invariant words own;
}

pub returns-in-Numeral : goal.returns-in-Numeral
returns-in-Numeral c = record {
  ok = λ words own tables params.
      c.number_said.ensures
      ∙ sym (increase_numeral (words_named words.functions) (names_of words.objects) own c.item-word.result.now (drop (c.loop-place.place + 1) c.args.said.now) c.in-Numeral.is)
      ∙ sym (ap (λ ws. increase_in (words_named words.functions) (names_of words.objects) own (own_words ws)) (drop_item c.args.said.now c.loop-place.place c.item-word.result.now c.item-word.ensures))
      ∙ c.loop-place.invariant words own;
}

pub returns-in-Cost : goal.returns-in-Cost
returns-in-Cost c = record {
  ok = λ words own tables params.
      (λ i. Some (Call (c.place_in.ensures (words_named words.functions) tables.functions i) (c.in_ok-terms_said-in-Cost.ensures.ok (names_of words.objects) own tables.objects params i)))
      ∙ sym (increase_call (words_named words.functions) (names_of words.objects) own c.item-word.result.now (drop (c.loop-place.place + 1) c.args.said.now) c.in-Cost.is)
      ∙ sym (ap (λ ws. increase_in (words_named words.functions) (names_of words.objects) own (own_words ws)) (drop_item c.args.said.now c.loop-place.place c.item-word.result.now c.item-word.ensures))
      ∙ c.loop-place.invariant words own;
}

pub loop-place-preserved : goal.loop-place-preserved
loop-place-preserved c = λ words own.
    sym (increase_more (words_named words.functions) (names_of words.objects) own c.item-word.result.now (drop (c.loop-place.place + 1) c.args.said.now)
    (not_act c.item-word.result.now.role c.in_default.not-Action) (not_cost c.item-word.result.now.role c.in_default.not-Numeral c.in_default.not-Cost))
    ∙ sym (ap (λ ws. increase_in (words_named words.functions) (names_of words.objects) own (own_words ws)) (drop_item c.args.said.now c.loop-place.place c.item-word.result.now c.item-word.ensures))
    ∙ c.loop-place.invariant words own

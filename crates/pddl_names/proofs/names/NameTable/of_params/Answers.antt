use Rattle.std.proofs.Common.{sym, ap, ◌∙◌}
use Rattle.std.specs.Option.{is_some}
use Rattle.pddl_names.specs.Numbers.{number_in}
use Rattle.pddl_names.proofs.ParamLemmas.{params_stop, params_pass, params_put, params_kept, some_there, none_there}
use Rattle.pddl_names.proofs.names.NameTable.of_params.Goals as goal

pub returns-then-is_action : goal.returns-then-is_action
returns-then-is_action c = record {
  ok = params_stop c.args.words.now c.args.start c.loop-place.place c.item-word.result.now c.item-word.ensures c.loop-place.table (sym c.is_action.ensures ∙ c.if-is_action.true) c.loop-place.invariant;
}

pub loop-place-preserved-then-not-is_param : goal.loop-place-preserved-then-not-is_param
loop-place-preserved-then-not-is_param c =
    params_pass c.args.words.now c.args.start c.loop-place.place c.item-word.result.now c.item-word.ensures c.loop-place.table
    (sym c.is_action.ensures ∙ c.if-is_action.false) (sym c.is_param.ensures ∙ c.if-not-is_param.true) c.loop-place.invariant

pub loop-place-preserved-then-is_some : goal.loop-place-preserved-then-is_some
loop-place-preserved-then-is_some c =
    let w = c.item-word.result.now in
    let had = some_there (number_in c.loop-place.table w.text) (sym (c.is_some.ensures ∙ ap (λ o. is_some o) c.number.ensures) ∙ c.if-is_some.true) in
    params_kept c.args.words.now c.args.start c.loop-place.place w c.item-word.ensures c.loop-place.table had.0
    (sym c.is_param.ensures ∙ c.if-not-is_param.false) had.1 c.loop-place.invariant

pub loop-place-preserved : goal.loop-place-preserved
loop-place-preserved c =
    let w = c.item-word.result.now in
    let none = none_there (number_in c.loop-place.table w.text) (sym (c.is_some.ensures ∙ ap (λ o. is_some o) c.number.ensures) ∙ c.if-is_some.false) in
    params_put c.args.words.now c.args.start c.loop-place.place w c.item-word.ensures c.loop-place.table c.put.new.self
    (sym c.is_param.ensures ∙ c.if-not-is_param.false) none c.in_ok-put.ensures.ok c.loop-place.invariant

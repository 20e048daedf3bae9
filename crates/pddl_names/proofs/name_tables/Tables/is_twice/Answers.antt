use Rattle.std.proofs.Common.{◌≡◌, ◌+◌, take, drop, sym, ap, ◌∙◌}
use Rattle.std.specs.Prelude.{slice_get}
use Rattle.mre_base.proofs.Options.{at_some}
use Rattle.pddl_names.specs.declared.role.Word.{Word}
use Rattle.pddl_names.specs.Naming.{is_twice}
use Rattle.pddl_names.specs.Params.{is_param}
use Rattle.pddl_names.specs.Tables.{first_before}
use Rattle.pddl_names.proofs.ParamTypes.{param_role, round_again}
use Rattle.pddl_names.proofs.RuleLemmas.{twice_predicate, twice_function, twice_action, twice_param}
use Rattle.pddl_names.proofs.name_tables.Tables.is_twice.Goals as goal

pub returns-in-Predicate : goal.returns-in-Predicate
returns-in-Predicate c = λ known are.
    let words = c.args.words.now in
    let place = c.args.place in
    let w = c.item-word.result.now in
    at_some (slice_get words place) w (λ (v : Word). c.is_before.result ≡ is_twice known (take place words) v (drop (place + 1) words)) c.item-word.ensures
    (c.is_before.ensures ∙ twice_predicate known words place w c.item-word.ensures c.in-Predicate.is c.args.self.now.predicates are.predicates)

pub returns-in-Function : goal.returns-in-Function
returns-in-Function c = λ known are.
    let words = c.args.words.now in
    let place = c.args.place in
    let w = c.item-word.result.now in
    at_some (slice_get words place) w (λ (v : Word). c.is_before-in-Function.result ≡ is_twice known (take place words) v (drop (place + 1) words)) c.item-word.ensures
    (c.is_before-in-Function.ensures ∙ twice_function known words place w c.item-word.ensures c.in-Function.is c.args.self.now.functions are.functions)

pub returns-in-Action : goal.returns-in-Action
returns-in-Action c = λ known are.
    let words = c.args.words.now in
    let place = c.args.place in
    let w = c.item-word.result.now in
    at_some (slice_get words place) w (λ (v : Word). c.is_before-in-Action.result ≡ is_twice known (take place words) v (drop (place + 1) words)) c.item-word.ensures
    (c.is_before-in-Action.ensures ∙ twice_action known words place w c.item-word.ensures c.in-Action.is c.args.self.now.actions are.actions)

pub returns-then-is_of_action : goal.returns-then-is_of_action
returns-then-is_of_action c = λ known are.
    let words = c.args.words.now in
    let place = c.args.place in
    let w = c.item-word.result.now in
    let action = c.requires.action in
    let is = param_role w.role (ap is_param c.in-Variable.is ∙ sym c.is_of_action.ensures ∙ c.if-is_of_action.true) in
    at_some (slice_get words place) w (λ (v : Word). c.is_before-then-is_of_action.result ≡ is_twice known (take place words) v (drop (place + 1) words)) c.item-word.ensures
    (c.is_before-then-is_of_action.ensures ∙ ap (λ o. first_before o place) (action.params w.text)
    ∙ round_again words c.args.action.now.start place w action.within c.item-word.ensures action.words_are is action.none
    ∙ twice_param known words place w c.item-word.ensures is)

use Rattle.std.proofs.Common.{◌≡◌, ℕ, ◌+◌, Some, None, take, drop, sym, ap, ◌∙◌, arith}
use Rattle.std.specs.Prelude.{slice_get}
use Rattle.std.specs.Option.{option_map}
use Rattle.mre_base.specs.declared.text.Text.{Text}
use Rattle.mre_base.proofs.Listed.{item_at}
use Rattle.mre_base.proofs.Options.{at_some}
use Rattle.pddl_names.specs.declared.role.Word.{Word}
use Rattle.pddl_names.specs.Listings.{type_behind}
use Rattle.pddl_names.specs.Naming.{term_type, params_round}
use Rattle.pddl_names.proofs.KnownLemmas.{type_told}
use Rattle.pddl_names.proofs.ParamTypes.{round_type, round_bound, term_param}
use Rattle.pddl_names.proofs.name_tables.Tables.term_type.Goals as goal

pub index-requires : goal.index-requires
index-requires c =
    let words = c.args.words.now in
    let w = item_at words c.args.place c.requires.place in
    let action = c.requires.action in
    let lt = round_bound words c.args.action.now.start c.args.place w.0 action.within w.1 action.words_are c.args.text.now c.in-Some.param
    (sym (action.params c.args.text.now) ∙ sym c.in-Some.ensures) in
    omega (arith, lt, c.requires.sizes.types)

pub returns-in-Some : goal.returns-in-Some
returns-in-Some c = λ known are.
    let words = c.args.words.now in
    let text = c.args.text.now in
    let w = item_at words c.args.place c.requires.place in
    let action = c.requires.action in
    let first = sym (action.params text) ∙ sym c.in-Some.ensures in
    let p = item_at words c.in-Some.param (round_bound words c.args.action.now.start c.args.place w.0 action.within w.1 action.words_are text c.in-Some.param first) in
    let told = type_told words c.args.self.now.types.items are.types c.in-Some.param p.0 p.1 c.index.result.now c.index.ensures c.text_at.result.now (c.text_at.ensures known are.names) in
    at_some (slice_get words c.args.place) w.0 (λ (v : Word). Some c.text_at.result.now ≡ term_type known (params_round (take c.args.place words) v (drop (c.args.place + 1) words)) text) w.1
    (sym (term_param known (params_round (take c.args.place words) w.0 (drop (c.args.place + 1) words)) text (Some c.text_at.result.now) (sym c.is_variable.ensures ∙ c.if-not-is_variable.false)
    (round_type words c.args.action.now.start c.args.place w.0 action.within w.1 action.words_are text
    ∙ ap (option_map (λ (p : ℕ). type_behind (drop (p + 1) words))) first ∙ ap (λ (t : Text). Some t) (sym told))))

pub returns-in-None : goal.returns-in-None
returns-in-None c = λ known are.
    let words = c.args.words.now in
    let text = c.args.text.now in
    let w = item_at words c.args.place c.requires.place in
    let action = c.requires.action in
    let first = sym (action.params text) ∙ sym c.in-None.ensures in
    at_some (slice_get words c.args.place) w.0 (λ (v : Word). None ≡ term_type known (params_round (take c.args.place words) v (drop (c.args.place + 1) words)) text) w.1
    (sym (term_param known (params_round (take c.args.place words) w.0 (drop (c.args.place + 1) words)) text None (sym c.is_variable.ensures ∙ c.if-not-is_variable.false)
    (round_type words c.args.action.now.start c.args.place w.0 action.within w.1 action.words_are text
    ∙ ap (option_map (λ (p : ℕ). type_behind (drop (p + 1) words))) first)))

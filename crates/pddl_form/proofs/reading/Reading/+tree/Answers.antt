use Rattle.std.proofs.Common.{◌+◌, ◌∷◌, ◌++◌, drop, Err, ◌∙◌, ap}
use Rattle.std.proofs.lemmas.Result.{on_ok_weaker}
use Rattle.pddl_text.specs.Forests.{tokens_of, tokens_of_all}
use Rattle.pddl_text.specs.Tokens.{Close}
use Rattle.pddl_form.specs.Readings.{runs}
use Rattle.pddl_form.proofs.StopLemmas.{if_fault_weaker}
use Rattle.pddl_form.proofs.TreeTokens.{items_tokens, next_tree}
use Rattle.pddl_form.proofs.reading.Reading.+tree.Goals as goal

pub list-returns-in-Ok-trees-clause-ok : goal.list-returns-in-Ok-trees-clause-ok
list-returns-in-Ok-trees-clause-ok t c =
    let list = c.args.list.now in
    let close = c.args.close in
    on_ok_weaker c.close.result
    (λ goes tokens. c.in-Ok.ensures.ok (tokens_of_all list ++ (Close close ∷ tokens)) ∙ c.in-Ok-trees.ensures.ok (Close close ∷ tokens) ∙ goes tokens)
    c.close.ensures.ok

pub list-returns-in-Ok-trees-clause-fault : goal.list-returns-in-Ok-trees-clause-fault
list-returns-in-Ok-trees-clause-fault t c =
    let list = c.args.list.now in
    let close = c.args.close in
    if_fault_weaker c.close.result _ _
    (λ found fails tokens. c.in-Ok.ensures.ok (tokens_of_all list ++ (Close close ∷ tokens)) ∙ c.in-Ok-trees.ensures.ok (Close close ∷ tokens) ∙ fails tokens)
    c.close.ensures.fault

pub tree-returns-in-Items-clause-fault : goal.tree-returns-in-Items-clause-fault
tree-returns-in-Items-clause-fault t c =
    if_fault_weaker c.list.result _ _
    (λ found fails tokens. ap (λ tree. runs c.args.self.now (tokens_of tree ++ tokens)) c.in-Items.is
    ∙ ap (runs c.args.self.now) (items_tokens c.in-Items.list c.in-Items.at c.in-Items.close tokens) ∙ fails tokens)
    c.list.ensures.fault

pub trees-returns-in-Err-clause-fault : goal.trees-returns-in-Err-clause-fault
trees-returns-in-Err-clause-fault t c =
    if_fault_weaker {A = Unit {0}} (Err c.in-Err.stop) _ _
    (λ found fails tokens. c.loop-place.invariant tokens ∙ ap (runs c.loop-place.self) (next_tree c.args.list.now c.loop-place.place c.item.result.now tokens c.item.ensures)
    ∙ fails (tokens_of_all (drop (c.loop-place.place + 1) c.args.list.now) ++ tokens))
    c.in-Err.ensures.fault

pub trees-loop-place-preserved : goal.trees-loop-place-preserved
trees-loop-place-preserved t c tokens =
    c.loop-place.invariant tokens
    ∙ ap (runs c.loop-place.self) (next_tree c.args.list.now c.loop-place.place c.item.result.now tokens c.item.ensures)
    ∙ c.in-Ok.ensures.ok (tokens_of_all (drop (c.loop-place.place + 1) c.args.list.now) ++ tokens)

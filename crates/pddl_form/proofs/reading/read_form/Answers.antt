use Rattle.std.proofs.Common.{◌≡◌, [], ◌∷◌, Err, ◌∙◌, ap, sym, subst}
use Rattle.std.proofs.lemmas.List.{append-nil}
use Rattle.pddl_text.specs.Answers.{Gives}
use Rattle.pddl_text.specs.Forests.{tokens_of_all}
use Rattle.pddl_form.specs.Readings.{runs}
use Rattle.pddl_form.specs.Runs.{run, ends}
use Rattle.pddl_form.proofs.StopLemmas.{gives_stop, if_fault_weaker}
use Rattle.pddl_form.proofs.reading.read_form.Goals as goal

pub returns-in-Ok : goal.returns-in-Ok
returns-in-Ok c =
    let forest = c.args.forest.now in
    let tokens = tokens_of_all forest.trees in
    let read : run (c.args.start ∷ []) [] tokens ≡ runs c.trees.new.self [] =
    sym (c.in_ok-reading.ensures.ok tokens) ∙ ap (runs c.in_ok-reading.reading) (sym (append-nil tokens)) ∙ c.in-Ok.ensures.ok []
    in
    subst (λ found. Gives c.finish.result (ends forest.past found)) (sym read) c.finish.ensures

pub returns-in-Err : goal.returns-in-Err
returns-in-Err c =
    let forest = c.args.forest.now in
    let tokens = tokens_of_all forest.trees in
    gives_stop c.in-Err.stop forest.past (run (c.args.start ∷ []) [] tokens)
    (if_fault_weaker {A = Unit {0}} (Err c.in-Err.stop) _ _
    (λ found fails. sym (c.in_ok-reading.ensures.ok tokens) ∙ ap (runs c.in_ok-reading.reading) (sym (append-nil tokens)) ∙ fails [])
    c.in-Err.ensures.fault)

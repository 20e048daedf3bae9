use Rattle.std.proofs.Common.{◌∷◌, ◌++◌}
use Rattle.pddl_text.specs.Forests.{tokens_of_all}
use Rattle.pddl_text.specs.Tokens.{Open, Close}
use Rattle.pddl_form.specs.Faults.{head, open_fault}
use Rattle.pddl_form.specs.Readings.{runs}
use Rattle.pddl_form.proofs.StopLemmas.{list_fails, stuck}
use Rattle.pddl_form.proofs.reading.Reading.open.Goals as goal

pub returns-then-not-branch-clause-fault : goal.returns-then-not-branch-clause-fault
returns-then-not-branch-clause-fault c =
    let list = c.args.list.now in
    let at = c.args.at in
    list_fails (Unit {0}) c.list_stop.result
    (λ close tokens. runs c.args.self.now (Open at ∷ (tokens_of_all list ++ (Close close ∷ tokens))))
    (λ close tokens. open_fault c.in-Some.part at (head (tokens_of_all list ++ (Close close ∷ tokens))))
    c.list_stop.ensures
    (λ close tokens. stuck c.args.self.now.due.items c.pop.new.self.items c.put.new.self.due.items c.in-Some.part c.args.self.now.met (Open at) (tokens_of_all list ++ (Close close ∷ tokens)) c.after_open.result c.in_ok-put.field-0
    c.in-Some.ensures.items c.after_open.ensures c.if-not-branch.true c.in_ok-put.ensures.ok)

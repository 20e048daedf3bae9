use Rattle.std.proofs.Common.{sym, ◌∙◌, arith}
use Rattle.std.proofs.lemmas.List.{get_or_read}
use Rattle.relax_cuts.specs.Closing.{IsUsable}
use Rattle.relax_cuts.proofs.GrowLemmas.{spreads_none, spreads_adds}
use Rattle.relax_cuts.proofs.closing.expand.Goals as goal

pub returns-then-limit-index-clause-spreads : goal.returns-then-limit-index-clause-spreads
returns-then-limit-index-clause-spreads g c = spreads_none (g.T.TaskView.seen c.args.task.now) c.args.left.now.items c.args.limit c.args.growing.now.among.members

pub returns-then-applies-clause-spreads : goal.returns-then-applies-clause-spreads
returns-then-applies-clause-spreads g c =
    let read = get_or_read c.args.left.now.items c.args.action c.index.result.now (omega (arith, c.requires.sized, c.requires.listed)) c.index.ensures 0 in
    let usable : IsUsable (g.T.TaskView.seen c.args.task.now) c.args.left.now.items c.args.limit c.args.action c.args.growing.now.among.members =
    record { listed = c.requires.listed; cheap = omega (arith, read, c.if-limit-index.false); does = sym c.applies.ensures ∙ c.if-applies.true } in
    spreads_adds (g.T.TaskView.seen c.args.task.now) c.args.left.now.items c.args.limit c.args.action c.args.growing.now.among.members c.put_adds.new.growing.among.members c.requires.task usable c.in_ok-put_adds.ensures.adds

pub returns-in-None-clause-spreads : goal.returns-in-None-clause-spreads
returns-in-None-clause-spreads g c = spreads_none (g.T.TaskView.seen c.args.task.now) c.args.left.now.items c.args.limit c.args.growing.now.among.members

pub returns-in-Some-clause-spreads : goal.returns-in-Some-clause-spreads
returns-in-Some-clause-spreads g c = spreads_none (g.T.TaskView.seen c.args.task.now) c.args.left.now.items c.args.limit c.args.growing.now.among.members

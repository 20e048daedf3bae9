use Rattle.std.proofs.Common.{◌+◌, sym, ap, ◌∙◌}
use Rattle.task_kit.specs.Reached.{reached}
use Rattle.task_kit.proofs.SearchLemmas.{notes_trail, notes_grow, notes_reach}
use Rattle.task_kit.proofs.searching.note_successor.Goals as goal

pub returns-clause-trail : goal.returns-clause-trail
returns-clause-trail g c = notes_trail (g.T.TaskView.seen c.args.task.now) (reached c.args.table.now) (reached c.note.new.self) c.args.expansion.now.at c.args.expansion.now.bound c.args.action (c.args.expansion.now.node.cost + c.price_of.result) c.args.expansion.now.node c.args.scratch.now.from c.next_into.new.into c.requires.trail c.requires.node c.requires.from c.requires.from_width (sym c.applies.ensures ∙ c.if-not-applies.false) (ap (λ n. c.args.expansion.now.node.cost + n) c.price_of.ensures.price) c.next_into.ensures c.in_ok-note.ensures.indexed c.in_ok-note.ensures.notes

pub returns-clause-grows : goal.returns-clause-grows
returns-clause-grows g c = notes_grow (g.T.TaskView.seen c.args.task.now) (reached c.args.table.now) (reached c.note.new.self) c.args.expansion.now.at c.args.expansion.now.bound c.args.action (c.args.expansion.now.node.cost + c.price_of.result) c.args.expansion.now.node c.args.scratch.now.from c.next_into.new.into c.requires.trail c.requires.node c.requires.from c.requires.from_width (sym c.applies.ensures ∙ c.if-not-applies.false) (ap (λ n. c.args.expansion.now.node.cost + n) c.price_of.ensures.price) c.next_into.ensures c.in_ok-note.ensures.notes

pub returns-clause-reached : goal.returns-clause-reached
returns-clause-reached g c = notes_reach (g.T.TaskView.seen c.args.task.now) (reached c.args.table.now) (reached c.note.new.self) c.args.expansion.now.at c.args.expansion.now.bound c.args.action (c.args.expansion.now.node.cost + c.price_of.result) c.args.expansion.now.node c.args.scratch.now.from c.next_into.new.into c.requires.trail c.requires.node c.requires.from c.requires.from_width (sym c.applies.ensures ∙ c.if-not-applies.false) (ap (λ n. c.args.expansion.now.node.cost + n) c.price_of.ensures.price) c.next_into.ensures c.in_ok-note.ensures.notes

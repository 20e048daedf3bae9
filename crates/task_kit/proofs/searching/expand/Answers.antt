use Rattle.std.proofs.Common.{Some, sym, ap, ◌∙◌, arith}
use Rattle.std.specs.FinSet as set
use Rattle.task_kit.specs.Reached.{reached}
use Rattle.task_kit.proofs.SearchLemmas.{grows_same, settled_more, settled_less, done_beaten, done_expanded, found_kept, found_goal, width_at}
use Rattle.task_kit.proofs.searching.expand.Goals as goal

pub returns-then-is_beaten-clause-settled : goal.returns-then-is_beaten-clause-settled
returns-then-is_beaten-clause-settled g c =
    let r = reached c.args.table.now in
    settled_more (g.T.TaskView.seen c.args.task.now) c.args.found.now.bound r r c.args.at c.node-node.result c.requires.trail.indexed (grows_same r) c.node-node.ensures
    (done_beaten (g.T.TaskView.seen c.args.task.now) c.args.found.now.bound r c.node-node.result (c.is_beaten.ensures c.if-is_beaten.true)) c.requires.settled

pub copy_from-requires : goal.copy_from-requires
copy_from-requires g c = c.requires.from_width ∙ sym (width_at (g.T.TaskView.seen c.args.task.now) (reached c.args.table.now) c.args.at c.node-node.result c.state.result.now c.requires.trail c.node-node.ensures c.state.ensures)

pub is_subset-requires : goal.is_subset-requires
is_subset-requires g c = ap (λ b. b.width) c.goal.ensures ∙ sym (ap (λ b. b.width) c.copy_from.ensures ∙ width_at (g.T.TaskView.seen c.args.task.now) (reached c.args.table.now) c.args.at c.node-node.result c.state.result.now c.requires.trail c.node-node.ensures c.state.ensures)

pub returns-then-is_subset-clause-settled : goal.returns-then-is_subset-clause-settled
returns-then-is_subset-clause-settled g c =
    settled_less (g.T.TaskView.seen c.args.task.now) c.node-node.result.cost c.args.found.now.bound (reached c.args.table.now) c.args.at c.node-node.result (omega (arith, c.if-found-node.false)) c.requires.trail.indexed c.node-node.ensures (omega arith) c.requires.settled

pub returns-then-is_subset-clause-found : goal.returns-then-is_subset-clause-found
returns-then-is_subset-clause-found g c first found =
    found_goal (g.T.TaskView.seen c.args.task.now) (reached c.args.table.now) first c.args.found.now.bound c.args.at c.args.found.now.foil c.node-node.result c.state.result.now c.requires.trail c.node-node.ensures c.state.ensures
    (sym (λ i. set.is_subset ((ap (λ b. b.members) c.goal.ensures) i) ((ap (λ b. b.members) c.copy_from.ensures) i)) ∙ sym c.is_subset.ensures ∙ c.if-is_subset.true) c.if-found-node.false found

pub returns-then-is_subset-clause-from_width : goal.returns-then-is_subset-clause-from_width
returns-then-is_subset-clause-from_width g c = ap (λ b. b.width) c.copy_from.ensures ∙ width_at (g.T.TaskView.seen c.args.task.now) (reached c.args.table.now) c.args.at c.node-node.result c.state.result.now c.requires.trail c.node-node.ensures c.state.ensures ∙ sym c.requires.from_width

pub note_successors-requires-clause-from_width : goal.note_successors-requires-clause-from_width
note_successors-requires-clause-from_width g c = ap (λ b. b.width) c.copy_from.ensures ∙ width_at (g.T.TaskView.seen c.args.task.now) (reached c.args.table.now) c.args.at c.node-node.result c.state.result.now c.requires.trail c.node-node.ensures c.state.ensures

pub returns-in_err-note_successors-clause-from_width : goal.returns-in_err-note_successors-clause-from_width
returns-in_err-note_successors-clause-from_width g c = ap (λ b. b.width) (c.note_successors.ensures.from ∙ c.copy_from.ensures) ∙ width_at (g.T.TaskView.seen c.args.task.now) (reached c.args.table.now) c.args.at c.node-node.result c.state.result.now c.requires.trail c.node-node.ensures c.state.ensures ∙ sym c.requires.from_width

pub returns-clause-settled : goal.returns-clause-settled
returns-clause-settled g c =
    let old = reached c.args.table.now in
    let new = reached c.note_successors.new.table in
    settled_more (g.T.TaskView.seen c.args.task.now) c.args.found.now.bound old new c.args.at c.node-node.result c.requires.trail.indexed c.in_ok-note_successors.ensures.grows c.node-node.ensures
    (done_expanded (g.T.TaskView.seen c.args.task.now) c.args.found.now.bound new c.node-node.result c.copy_from.new.self (c.in_ok-note_successors.ensures.grows.states c.node-node.result.state _ (c.state.ensures ∙ ap Some (sym c.copy_from.ensures)))
    (ap (λ b. set.is_subset b.members c.copy_from.new.self.members) (sym c.goal.ensures) ∙ sym c.is_subset.ensures ∙ c.if-is_subset.false) c.in_ok-note_successors.ensures.reached)
    c.requires.settled

pub returns-clause-found : goal.returns-clause-found
returns-clause-found g c first found =
    found_kept (g.T.TaskView.seen c.args.task.now) (reached c.args.table.now) (reached c.note_successors.new.table) first c.args.found.now.bound c.args.found.now.foil c.in_ok-note_successors.ensures.grows found

pub returns-clause-from_width : goal.returns-clause-from_width
returns-clause-from_width g c = ap (λ b. b.width) (c.in_ok-note_successors.ensures.from ∙ c.copy_from.ensures) ∙ width_at (g.T.TaskView.seen c.args.task.now) (reached c.args.table.now) c.args.at c.node-node.result c.state.result.now c.requires.trail c.node-node.ensures c.state.ensures ∙ sym c.requires.from_width

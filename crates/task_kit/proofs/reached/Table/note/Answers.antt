use Rattle.std.proofs.Common.{◌≡◌, ◌<◌, length, slice_set, [], ◌∷◌, ◌++◌, inl, inr, refl, ap, ◌∙◌, arith, rules}
use Rattle.task_kit.specs.Reached.{reached, IsIndexed, Adds}
use Rattle.std.proofs.lemmas.Option.{slice_get_within}
use Rattle.task_kit.proofs.ReachedLemmas.{node_of, knows, improved, appended}
use Rattle.task_kit.proofs.reached.Table.note.Goals.{In_ok-add_node-in-Some, In_ok-add_node-in-None}
use Rattle.task_kit.proofs.reached.Table.note.Goals as goal

pub returns-then-last_cost-cost-clause-notes : goal.returns-then-last_cost-cost-clause-notes
returns-then-last_cost-cost-clause-notes c =
    inr (refl, knows (reached c.args.self.now) c.requires c.in-Some.place c.args.cost c.last_cost.result c.args.state.now c.in-Some.ensures.there c.last_cost.ensures c.if-last_cost-cost.true)

pub index_mut-requires : goal.index_mut-requires
index_mut-requires c =
    let within : c.in-Some.place < length c.args.self.now.states.keys = slice_get_within c.args.self.now.states.keys c.in-Some.place c.args.state.now c.in-Some.ensures.there in
    omega (arith, within, c.requires.sized, c.args.self.now.last.ok.0)

both_improved : (c : In_ok-add_node-in-Some)
    → IsIndexed (reached c.add_node.new.self) × Adds (reached c.args.self.now) c.args.state.now c.args.cost c.args.parent c.args.action (reached c.add_node.new.self)
both_improved c =
    let many : c.len.result ≡ length c.args.self.now.nodes.items = search rules in
    improved (reached c.args.self.now) c.requires (reached c.add_node.new.self) c.in-Some.place c.args.cost c.args.parent c.args.action c.args.state.now c.in-Some.ensures.there
    c.in_ok-add_node-in-Some.ensures.states (c.in_ok-add_node-in-Some.ensures.last ∙ ap (slice_set c.args.self.now.last.items c.in-Some.place) many) c.in_ok-add_node-in-Some.ensures.nodes c.in_ok-add_node-in-Some.ensures.open_nodes

pub returns-in_ok-add_node-in-Some-clause-indexed : goal.returns-in_ok-add_node-in-Some-clause-indexed
returns-in_ok-add_node-in-Some-clause-indexed c = (both_improved c).0

pub returns-in_ok-add_node-in-Some-clause-notes : goal.returns-in_ok-add_node-in-Some-clause-notes
returns-in_ok-add_node-in-Some-clause-notes c = inl (both_improved c).1

both_appended : (c : In_ok-add_node-in-None)
    → IsIndexed (reached c.add_node-in-None.new.self) × Adds (reached c.args.self.now) c.args.state.now c.args.cost c.args.parent c.args.action (reached c.add_node-in-None.new.self)
both_appended c =
    let many : c.len-in-None.result ≡ length c.args.self.now.nodes.items = search rules in
    let place : c.len-place.result ≡ length c.args.self.now.states.keys = search rules in
    appended (reached c.args.self.now) c.requires (reached c.add_node-in-None.new.self) c.args.cost c.args.parent c.args.action c.args.state.now
    (c.in_ok-add_node-in-None.ensures.states ∙ c.in_ok-insert-in-None.ensures ∙ ap (λ s. c.args.self.now.states.keys ++ s ∷ []) c.in_ok-copy-in-None.ensures.ok)
    (c.in_ok-add_node-in-None.ensures.last ∙ c.in_ok-push-in-None.ensures.items ∙ ap (λ n. c.args.self.now.last.items ++ n ∷ []) many)
    (c.in_ok-add_node-in-None.ensures.nodes ∙ ap (λ n. c.args.self.now.nodes.items ++ node_of n c.args.cost c.args.parent c.args.action ∷ []) place)
    c.in_ok-add_node-in-None.ensures.open_nodes

pub returns-in_ok-add_node-in-None-clause-indexed : goal.returns-in_ok-add_node-in-None-clause-indexed
returns-in_ok-add_node-in-None-clause-indexed c = (both_appended c).0

pub returns-in_ok-add_node-in-None-clause-notes : goal.returns-in_ok-add_node-in-None-clause-notes
returns-in_ok-add_node-in-None-clause-notes c = inl (both_appended c).1

use Rattle.std.proofs.Common.{◌≡◌, ◌-◌, ◌<◌, ◌≤◌, length, refl, sym, subst, ◌∙◌, arith, ⊎_elim, rules}
use Rattle.std.specs.Prelude.{slice_set}
use Rattle.pddl_names.specs.declared.forests.Node.{Node}
use Rattle.pddl_names.proofs.PathLemmas.{Settling, settling_done, settling_root, settling_skip, settling_put, above}
use Rattle.pddl_names.proofs.ScanLemmas.{index_read}
use Rattle.pddl_names.proofs.forests.settle.Goals as goal

pub loop-place-init : goal.loop-place-init
loop-place-init c =
    let ups = c.args.ups.now.items in
    let nodes = c.args.nodes.now.items in
    let done = c.args.done.now.items in
    let seen = c.args.seen.now.items in
    let after = c.path_from.new.seen.items in
    let path = c.in_ok-path.path.items in
    let end = c.in_ok-path.end in
    let known = c.in_ok-path.ensures.ok in
    let marked = c.in_ok-path.ensures.end in
    let root_node : Node = record { root = end; depth = 0; jump = end } in
    let size : c.len-place.result ≡ length path = search rules in
    subst (λ n. Settling ups c.settle_end.new.nodes.items c.settle_end.new.done.items done after path end n) (sym size)
    (⊎_elim
    (λ was.
    subst (λ ns. Settling ups ns c.settle_end.new.done.items done after path end (length path)) (sym was.1)
    (subst (λ ds. Settling ups nodes ds done after path end (length path)) (sym was.2)
    (settling_done ups done seen after c.args.start end path known marked nodes c.requires.settled was.0)))
    (λ root.
    subst (λ ns. Settling ups ns c.settle_end.new.done.items done after path end (length path)) (sym root.1)
    (subst (λ ds. Settling ups (slice_set nodes end root_node) ds done after path end (length path)) (sym root.2)
    (settling_root ups done seen after c.args.start end path known marked nodes c.requires.settled root_node root.0 refl refl refl)))
    c.settle_end.ensures)

pub loop-place-preserved-then-is_marked : goal.loop-place-preserved-then-is_marked
loop-place-preserved-then-is_marked c =
    let path = c.in_ok-path.path.items in
    let size : c.len-place.result ≡ length path = search rules in
    let within : c.loop-place.place ≤ length path = omega (arith, size, c.loop-place.auto.place) in
    let lt : c.loop-place.place - 1 < length path = omega (arith, within, c.loop-place-test.true) in
    let number = c.index-number.result.now in
    let is = sym (c.index-number.ensures ∙ index_read path (c.loop-place.place - 1) number lt) in
    settling_skip c.args.ups.now.items c.args.done.now.items c.args.seen.now.items c.path_from.new.seen.items c.args.start c.in_ok-path.end path c.in_ok-path.ensures.ok c.in_ok-path.ensures.end
    c.loop-place.nodes.items c.loop-place.done.items c.loop-place.place number c.loop-place-test.true within is c.loop-place.invariant (sym c.is_marked.ensures ∙ c.if-is_marked.true)

pub below-node-requires : goal.below-node-requires
below-node-requires c =
    let path = c.in_ok-path.path.items in
    let size : c.len-place.result ≡ length path = search rules in
    let within : c.loop-place.place ≤ length path = omega (arith, size, c.loop-place.auto.place) in
    let lt : c.loop-place.place - 1 < length path = omega (arith, within, c.loop-place-test.true) in
    let number = c.index-number.result.now in
    let is = sym (c.index-number.ensures ∙ index_read path (c.loop-place.place - 1) number lt) in
    let over = above c.args.ups.now.items c.args.done.now.items c.args.seen.now.items c.path_from.new.seen.items c.args.start c.in_ok-path.end path c.in_ok-path.ensures.ok c.in_ok-path.ensures.end
    c.loop-place.nodes.items c.loop-place.done.items c.loop-place.place number c.loop-place-test.true within is c.loop-place.invariant in
    let low = c.loop-place.invariant.grown.low _ over.0 in
    omega (arith, low, c.loop-place.invariant.grown.done_count, c.requires.few)

pub put-requires-clause-nodes : goal.put-requires-clause-nodes
put-requires-clause-nodes c =
    let path = c.in_ok-path.path.items in
    let size : c.len-place.result ≡ length path = search rules in
    let lt : c.loop-place.place - 1 < length path = omega (arith, size, c.loop-place.auto.place, c.loop-place-test.true) in
    let number = c.index-number.result.now in
    let is = sym (c.index-number.ensures ∙ index_read path (c.loop-place.place - 1) number lt) in
    let inside = c.in_ok-path.ensures.ok.inside (c.loop-place.place - 1) lt in
    omega (arith, is, inside, c.loop-place.invariant.grown.nodes_count)

pub put-requires-clause-done : goal.put-requires-clause-done
put-requires-clause-done c =
    let path = c.in_ok-path.path.items in
    let size : c.len-place.result ≡ length path = search rules in
    let lt : c.loop-place.place - 1 < length path = omega (arith, size, c.loop-place.auto.place, c.loop-place-test.true) in
    let number = c.index-number.result.now in
    let is = sym (c.index-number.ensures ∙ index_read path (c.loop-place.place - 1) number lt) in
    let inside = c.in_ok-path.ensures.ok.inside (c.loop-place.place - 1) lt in
    omega (arith, is, inside, c.loop-place.invariant.grown.done_count)

pub loop-place-preserved : goal.loop-place-preserved
loop-place-preserved c =
    let ups = c.args.ups.now.items in
    let path = c.in_ok-path.path.items in
    let after = c.path_from.new.seen.items in
    let end = c.in_ok-path.end in
    let size : c.len-place.result ≡ length path = search rules in
    let within : c.loop-place.place ≤ length path = omega (arith, size, c.loop-place.auto.place) in
    let lt : c.loop-place.place - 1 < length path = omega (arith, within, c.loop-place-test.true) in
    let number = c.index-number.result.now in
    let is = sym (c.index-number.ensures ∙ index_read path (c.loop-place.place - 1) number lt) in
    subst (λ ns. Settling ups ns c.put.new.done.items c.args.done.now.items after path end (c.loop-place.place - 1)) (sym c.put.ensures.nodes)
    (subst (λ ds. Settling ups (slice_set c.loop-place.nodes.items number c.below-node.result) ds c.args.done.now.items after path end (c.loop-place.place - 1)) (sym c.put.ensures.done)
    (settling_put ups c.args.done.now.items c.args.seen.now.items after c.args.start end path c.in_ok-path.ensures.ok c.in_ok-path.ensures.end
    c.loop-place.nodes.items c.loop-place.done.items c.loop-place.place number c.loop-place-test.true within is c.loop-place.invariant c.below-node.result
    (sym c.is_marked.ensures ∙ c.if-is_marked.false) c.below-node.ensures.root c.below-node.ensures.depth c.below-node.ensures.jump))

use Rattle.std.proofs.Common.{ℕ, ◌≤◌, ◌<◌, ◌-◌, length, sym, ◌∙◌, subst, arith}
use Rattle.pddl_names.specs.Arities.{PutsCount}
use Rattle.pddl_names.proofs.ArityLemmas.{arities_put, arities_passed}
use Rattle.pddl_names.proofs.ScanLemmas.{index_read}
use Rattle.pddl_names.proofs.arities.Arities.of_words.Goals as goal

pub loop-place-preserved-in-Continue-1 : goal.loop-place-preserved-in-Continue-1
loop-place-preserved-in-Continue-1 c =
    let within : c.loop-place.place ≤ length c.args.words.now = omega arith in
    let inside : c.loop-place.place - 1 < length c.args.behind.now.items = omega (arith, c.requires.behind.count) in
    let read = c.index.ensures ∙ index_read c.args.behind.now.items (c.loop-place.place - 1) c.index.result.now inside in
    arities_put c.args.kind c.args.words.now c.requires.kind c.loop-place.place c.item-word.result.now c.loop-place-test.true c.item-word.ensures
    c.loop-place.made c.put.new.self c.args.behind.now.items c.loop-place.invariant (sym c.has.ensures ∙ c.if-has.true) c.requires.behind within
    (subst (λ (n : ℕ). PutsCount c.loop-place.made c.put.new.self c.item-word.result.now.text n) read c.in_ok-put.ensures.ok)

pub loop-place-preserved : goal.loop-place-preserved
loop-place-preserved c =
    arities_passed c.args.kind c.args.words.now c.requires.kind c.loop-place.place c.item-word.result.now c.loop-place-test.true c.item-word.ensures
    c.loop-place.made c.loop-place.invariant (sym c.has.ensures ∙ c.if-has.false)

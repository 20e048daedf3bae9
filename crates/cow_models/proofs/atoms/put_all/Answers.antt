use Rattle.std.proofs.Common.{get_or, take, sym, ap, ◌∙◌, refl, arith}
use Rattle.std.specs.FinSet as set
use Rattle.task_kit.specs.Tasks.{set_of}
use Rattle.task_kit.proofs.AtomLemmas.{same_bits, more_listed, all_listed, union-none, union-insert}
use Rattle.cow_models.proofs.atoms.put_all.Goals as goal

pub loop-atom-init : goal.loop-atom-init
loop-atom-init c = same_bits _ _ _ _ refl (union-none c.args.bits.now.members _ refl)

pub put-requires : goal.put-requires
put-requires c = omega (arith, c.requires c.loop-atom.atom-index 0 c.loop-atom-test.true, ap (λ b. b.width) c.loop-atom.invariant)

pub loop-atom-preserved : goal.loop-atom-preserved
loop-atom-preserved c =
    let xs = c.args.atoms.now in
    let old = c.args.bits.now in
    let i = c.loop-atom.atom-index in
    c.put.ensures
    ∙ same_bits _ _ _ _ (ap (λ b. b.width) c.loop-atom.invariant)
    (ap (λ b. set.insert b.members (get_or xs i 0)) c.loop-atom.invariant ∙ sym (union-insert old.members (set_of (take i xs)) (get_or xs i 0))
    ∙ ap (λ s. set.union old.members s) (sym (more_listed xs i c.loop-atom-test.true)))

pub returns : goal.returns
returns c = c.loop-atom.invariant ∙ same_bits _ _ _ _ refl (ap (λ s. set.union c.args.bits.now.members s) (all_listed c.args.atoms.now c.loop-atom.atom-index c.loop-atom-test.false))

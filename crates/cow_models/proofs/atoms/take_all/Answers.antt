use Rattle.std.proofs.Common.{get_or, take, sym, ap, ◌∙◌, refl, arith}
use Rattle.std.specs.FinSet as set
use Rattle.task_kit.specs.Tasks.{set_of}
use Rattle.task_kit.proofs.AtomLemmas.{same_bits, more_listed, all_listed, difference-none, difference-insert}
use Rattle.cow_models.proofs.atoms.take_all.Goals as goal

pub loop-atom-init : goal.loop-atom-init
loop-atom-init c = same_bits _ _ _ _ refl (difference-none c.args.bits.now.members _ refl)

pub take_out-requires : goal.take_out-requires
take_out-requires c = omega (arith, c.requires c.loop-atom.atom-index 0 c.loop-atom-test.true, ap (λ b. b.width) c.loop-atom.invariant)

pub loop-atom-preserved : goal.loop-atom-preserved
loop-atom-preserved c =
    let xs = c.args.atoms.now in
    let old = c.args.bits.now in
    let i = c.loop-atom.atom-index in
    c.take_out.ensures
    ∙ same_bits _ _ _ _ (ap (λ b. b.width) c.loop-atom.invariant)
    (ap (λ b. set.remove b.members (get_or xs i 0)) c.loop-atom.invariant ∙ sym (difference-insert old.members (set_of (take i xs)) (get_or xs i 0))
    ∙ ap (λ s. set.difference old.members s) (sym (more_listed xs i c.loop-atom-test.true)))

pub returns : goal.returns
returns c = c.loop-atom.invariant ∙ same_bits _ _ _ _ refl (ap (λ s. set.difference c.args.bits.now.members s) (all_listed c.args.atoms.now c.loop-atom.atom-index c.loop-atom-test.false))

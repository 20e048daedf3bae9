use Rattle.std.proofs.Common.{◌+◌, Some, take, sym, ap, ◌∙◌, refl, subst}
use Rattle.task_kit.specs.Tasks.{set_of, IsFirstLack}
use Rattle.task_kit.proofs.AtomLemmas.{more_listed, all_listed, lack_none, lack_less, lack_same}
use Rattle.cow_models.proofs.atoms.least_missing.Goals.{then-not-contains, else-not-contains}
use Rattle.cow_models.proofs.atoms.least_missing.Goals as goal

pub loop-atom-init : goal.loop-atom-init
loop-atom-init c = lack_none _ c.args.bits.now.members refl

pub loop-atom-preserved : goal.loop-atom-preserved
loop-atom-preserved c =
    let xs = c.args.atoms.now in
    let more = more_listed xs c.loop-atom.atom-index c.loop-atom-test.true in
    let state = c.args.bits.now.members in
    elim c.if-not-contains.branch [
      | then-not-contains w ↦
          subst (IsFirstLack (set_of (take (c.loop-atom.atom-index + 1) xs)) state) (sym (w.least-is ∙ ap Some w.lesser.ensures))
          (lack_less _ _ state _ c.loop-atom.least more (sym c.contains.ensures ∙ w.if-not-contains.true) c.loop-atom.invariant)
      | else-not-contains w ↦
          subst (IsFirstLack (set_of (take (c.loop-atom.atom-index + 1) xs)) state) (sym w.least-is)
          (lack_same _ _ state _ c.loop-atom.least more (sym c.contains.ensures ∙ w.if-not-contains.false) c.loop-atom.invariant)
    ]

pub returns : goal.returns
returns c =
    subst (λ wanted. IsFirstLack wanted c.args.bits.now.members c.loop-atom.least) (all_listed c.args.atoms.now c.loop-atom.atom-index c.loop-atom-test.false) c.loop-atom.invariant

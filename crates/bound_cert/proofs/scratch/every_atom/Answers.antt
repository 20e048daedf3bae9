use Rattle.std.proofs.Common.{sym, ap, ◌∙◌, refl}
use Rattle.std.specs.FinSet as set
use Rattle.task_kit.proofs.AtomLemmas.{same_bits}
use Rattle.bound_cert.proofs.RoomLemmas.{none_below, one_more_below}
use Rattle.bound_cert.proofs.scratch.every_atom.Goals as goal

pub loop-atom-init : goal.loop-atom-init
loop-atom-init c = c.in_ok-all.ensures.ok ∙ same_bits _ _ _ _ refl (sym none_below)

pub loop-atom-preserved : goal.loop-atom-preserved
loop-atom-preserved c =
    c.put.ensures
    ∙ same_bits _ _ _ _ (ap (λ b. b.width) c.loop-atom.invariant) (ap (λ b. set.insert b.members c.loop-atom.atom) c.loop-atom.invariant ∙ sym (one_more_below c.loop-atom.atom))

use Rattle.std.proofs.Common.{sym, ◌∙◌, arith, below_more}
use Rattle.task_kit.proofs.AtomLemmas.{one_out, each_in}
use Rattle.cow_models.proofs.atoms.has_all.Goals as goal

pub loop-atom-preserved : goal.loop-atom-preserved
loop-atom-preserved c = below_more _ _ c.loop-atom.invariant (sym c.contains.ensures ∙ c.if-not-contains.false)

pub returns-then-not-contains : goal.returns-then-not-contains
returns-then-not-contains c =
    one_out c.args.atoms.now c.args.bits.now.members c.loop-atom.atom-index c.loop-atom-test.true (sym c.contains.ensures ∙ c.if-not-contains.true)

pub returns : goal.returns
returns c = each_in c.args.atoms.now c.args.bits.now.members (λ i lt. c.loop-atom.invariant i (omega arith))

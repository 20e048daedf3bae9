use Rattle.std.proofs.Common.{◌+◌, sym, ◌∙◌, arith, subst}
use Rattle.relax_cuts.proofs.LackLemmas.{ListsLacks, lists_same, lists_more, lists_all}
use Rattle.relax_cuts.proofs.lacking.lacks_of.Goals.{then-not-contains+in_ok-push, else-not-contains}
use Rattle.relax_cuts.proofs.lacking.lacks_of.Goals as goal

pub loop-atom-preserved : goal.loop-atom-preserved
loop-atom-preserved c =
    let among = c.args.among.now.members in
    let atom = c.loop-atom.atom in
    elim c.if-not-contains.branch [
      | then-not-contains+in_ok-push w ↦ lists_more atom among c.loop-atom.lacks c.loop-atom.invariant _ (w.lacks-is ∙ w.in_ok-push.ensures.ok) (sym c.contains.ensures ∙ w.if-not-contains.true)
      | else-not-contains w ↦ subst (ListsLacks (atom + 1) among) (sym w.lacks-is) (lists_same atom among c.loop-atom.lacks c.loop-atom.invariant (sym c.contains.ensures ∙ w.if-not-contains.false))
    ]

pub returns-clause-all : goal.returns-clause-all
returns-clause-all c = lists_all c.args.atoms c.loop-atom.atom c.args.among.now.members c.loop-atom.lacks c.loop-atom.invariant (omega arith) c.requires.below

use Rattle.std.proofs.Common.{true, false, [], ◌∷◌, ◌++◌, sym, ap, ◌∙◌}
use Rattle.case_kit.specs.Evaluated.{counts}
use Rattle.case_kit.proofs.CaseLists.{where_next}
use Rattle.case_kit.proofs.taking.atoms_by.Goals.{then-counts+in_ok-push, else-counts}
use Rattle.case_kit.proofs.taking.atoms_by.Goals as goal

pub loop-place-preserved : goal.loop-place-preserved
loop-place-preserved c =
    elim c.if-counts.branch [
      | then-counts+in_ok-push w ↦
          w.atoms-is ∙ w.in_ok-push.ensures.ok ∙ ap (λ xs. xs ++ c.item-case.result.now.atom ∷ []) c.loop-place.invariant
          ∙ sym (where_next (counts c.args.way c.args.cube.now) c.args.cases.now c.loop-place.place c.item-case.result.now true c.item-case.ensures (sym c.counts.ensures ∙ w.if-counts.true))
      | else-counts w ↦
          w.atoms-is ∙ c.loop-place.invariant ∙ sym (where_next (counts c.args.way c.args.cube.now) c.args.cases.now c.loop-place.place c.item-case.result.now false c.item-case.ensures (sym c.counts.ensures ∙ w.if-counts.false))
    ]

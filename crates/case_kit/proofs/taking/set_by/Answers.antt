use Rattle.std.proofs.Common.{true, false, sym, ap, ◌∙◌}
use Rattle.std.specs.FinSet as set
use Rattle.case_kit.specs.Evaluated.{counts}
use Rattle.case_kit.proofs.CaseLists.{set_next}
use Rattle.case_kit.proofs.taking.set_by.Goals.{then-counts, else-counts}
use Rattle.case_kit.proofs.taking.set_by.Goals as goal

pub loop-place-preserved : goal.loop-place-preserved
loop-place-preserved c =
    elim c.if-counts.branch [
      | then-counts w ↦
          record {
            width = ap (λ b. b.width) (w.bits-is ∙ w.put.ensures) ∙ c.loop-place.invariant.width;
            members = ap (λ b. b.members) (w.bits-is ∙ w.put.ensures) ∙ ap (λ s. set.insert s c.item-case.result.now.atom) c.loop-place.invariant.members
                ∙ sym (set_next (counts c.args.way c.args.cube.now) c.args.cases.now c.loop-place.place c.item-case.result.now true c.item-case.ensures (sym c.counts.ensures ∙ w.if-counts.true));
          }
      | else-counts w ↦
          record {
            width = ap (λ b. b.width) w.bits-is ∙ c.loop-place.invariant.width;
            members = ap (λ b. b.members) w.bits-is ∙ c.loop-place.invariant.members
                ∙ sym (set_next (counts c.args.way c.args.cube.now) c.args.cases.now c.loop-place.place c.item-case.result.now false c.item-case.ensures (sym c.counts.ensures ∙ w.if-counts.false));
          }
    ]

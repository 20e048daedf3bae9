use Rattle.std.proofs.Common.{◌≡◌, sym, ap, ◌∙◌, subst}
use Rattle.task_kit.specs.Tasks.{AllBelow}
use Rattle.task_kit.proofs.KeptLemmas.{below_none, below_more}
use Rattle.task_tests.proofs.making.set_below.Goals.{then-number-bound, else-number-bound}
use Rattle.task_tests.proofs.making.set_below.Goals as goal

pub loop-number-init : goal.loop-number-init
loop-number-init c = record { width = ap (λ b. b.width) c.in_ok-bits.ensures.ok; below = below_none c.args.bound c.in_ok-bits.bits.members (ap (λ b. b.members) c.in_ok-bits.ensures.ok) }

pub loop-number-preserved : goal.loop-number-preserved
loop-number-preserved c =
    elim c.if-number-bound.branch [
      | then-number-bound w ↦
          record {
            width = ap (λ b. b.width) (w.bits-is ∙ w.put.ensures) ∙ c.loop-number.invariant.width;
            below = below_more c.args.bound _ c.loop-number.bits.members c.if-number-bound.bits.members c.loop-number.invariant.below w.if-number-bound.true (ap (λ b. b.members) (w.bits-is ∙ w.put.ensures));
          }
      | else-number-bound w ↦ subst (λ b. record { width : b.width ≡ c.args.width; below : AllBelow c.args.bound b.members }) (sym w.bits-is) c.loop-number.invariant
    ]

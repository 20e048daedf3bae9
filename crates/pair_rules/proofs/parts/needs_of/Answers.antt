use Rattle.std.proofs.Common.{sym, ap, ◌∙◌, not}
use Rattle.pair_rules.specs.Made.{is_pre}
use Rattle.pair_rules.proofs.PartLemmas.{kept, left}
use Rattle.pair_rules.proofs.parts.needs_of.Goals.{then-not-differs+in_ok-copied+in_ok-push, else-not-differs}
use Rattle.pair_rules.proofs.parts.needs_of.Goals as goal

pub loop-place-preserved : goal.loop-place-preserved
loop-place-preserved c =
    elim c.if-not-differs.branch [
      | then-not-differs+in_ok-copied+in_ok-push w ↦
          kept c.args.pre.now c.loop-place.place c.item-atom.result.now c.item-atom.ensures (λ atom. not (is_pre c.args.action atom c.args.differences.now)) c.loop-place.made _ w.in_ok-copied.field-0 c.loop-place.invariant
          (ap not (sym c.differs.ensures ∙ w.if-not-differs.true)) w.in_ok-copied.ensures.ok (w.made-is ∙ w.in_ok-push.ensures.ok)
      | else-not-differs w ↦
          w.made-is ∙ left c.args.pre.now c.loop-place.place c.item-atom.result.now c.item-atom.ensures (λ atom. not (is_pre c.args.action atom c.args.differences.now)) c.loop-place.made c.loop-place.invariant
          (ap not (sym c.differs.ensures ∙ w.if-not-differs.false))
    ]

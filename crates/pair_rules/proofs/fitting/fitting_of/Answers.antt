use Rattle.std.proofs.Common.{◌≡◌, true, ◌∙◌, sym, subst}
use Rattle.std.specs.Prelude.{◌↔◌, Contains}
use Rattle.model_kit.specs.Vocabulary.{is_object_of}
use Rattle.pair_rules.specs.Fitting.{AreObjectsOf}
use Rattle.pair_rules.proofs.TypeLemmas.{fitting_more, objects_are, unused}
use Rattle.pair_rules.proofs.fitting.fitting_of.Goals.{then-contains+in_ok-objects_of+in_ok-push, else-contains+in_ok-push-2}
use Rattle.pair_rules.proofs.fitting.fitting_of.Goals as goal

pub loop-kind-preserved : goal.loop-kind-preserved
loop-kind-preserved c =
    let words = c.args.words.now in
    elim c.if-contains.branch [
      | then-contains+in_ok-objects_of+in_ok-push w ↦
          fitting_more words c.loop-kind.kind c.loop-kind.made c.if-contains.made _ c.loop-kind.invariant
          (λ used object. subst (λ list. Contains list object ↔ (is_object_of words object c.loop-kind.kind ≡ true)) (sym w.in_ok-objects_of.ensures) (objects_are words c.in_ok-sets.sets c.in_ok-objects.objects c.loop-kind.kind
          (subst (λ n. AreObjectsOf words n c.in_ok-sets.sets) (sym (c.in_ok-objects.ensures ∙ c.len-2.ensures)) c.in_ok-sets.ensures) (c.in_ok-objects.ensures ∙ c.len-2.ensures) object))
          (w.made-is ∙ w.in_ok-push.ensures.ok)
      | else-contains+in_ok-push-2 w ↦
          fitting_more words c.loop-kind.kind c.loop-kind.made c.if-contains.made _ c.loop-kind.invariant
          (λ used object. absurd (unused words c.in_ok-used.used c.in_ok-used.ensures c.loop-kind.kind (sym c.contains.ensures ∙ w.if-contains.false) used))
          (w.made-is ∙ w.in_ok-push-2.ensures.ok)
    ]

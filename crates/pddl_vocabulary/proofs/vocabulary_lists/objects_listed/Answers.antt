use Rattle.std.proofs.Common.{ℕ, ◌+◌, [], ◌∷◌, ◌++◌, drop, refl, sym, ◌∙◌}
use Rattle.mre_base.specs.declared.text.Text.{Text}
use Rattle.pddl_vocabulary.specs.VocabularyTypes.{type_number}
use Rattle.pddl_vocabulary.specs.VocabularyLists.{objects_numbered}
use Rattle.pddl_vocabulary.proofs.GatherLemmas.{gathered_pass, gathered_more, objects_step}
use Rattle.pddl_vocabulary.proofs.vocabulary_lists.objects_listed.Goals as goal
use Rattle.pddl_vocabulary.proofs.vocabulary_lists.objects_listed.Goals.{then-has+in_ok-copy+in_ok-push, else-has}

pub loop-place-preserved : goal.loop-place-preserved
loop-place-preserved c =
    let words = c.args.words.now in
    let types = c.args.types.now in
    let place = c.loop-place.place in
    let w = c.item-word.result.now in
    let behind = drop (place + 1) words in
    let made = c.loop-place.made in
    elim c.if-has.branch [
      | then-has+in_ok-copy+in_ok-push v ↦
          gathered_more (objects_numbered (type_number types)) refl words (objects_numbered (type_number types) words) place w c.item-word.ensures made c.if-has.made _
          (objects_step (type_number types) w behind _ (sym c.has.ensures ∙ v.if-has.true)) c.loop-place.invariant
          (v.made-is ∙ v.in_ok-push.ensures.ok ∙ (λ i. let entry : Text × ℕ = (v.in_ok-copy.ensures.ok i, v.behind.ensures i) in made ++ entry ∷ []))
      | else-has v ↦
          gathered_pass (objects_numbered (type_number types)) refl words (objects_numbered (type_number types) words) place w c.item-word.ensures made c.if-has.made
          (objects_step (type_number types) w behind _ (sym c.has.ensures ∙ v.if-has.false)) c.loop-place.invariant v.made-is
    ]

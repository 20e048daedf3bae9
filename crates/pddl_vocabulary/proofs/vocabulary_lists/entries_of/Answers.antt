use Rattle.std.proofs.Common.{◌+◌, [], ◌∷◌, ◌++◌, drop, refl, sym, ◌∙◌}
use Rattle.model_kit.specs.declared.vocabulary.Signature.{Signature}
use Rattle.pddl_vocabulary.specs.VocabularyTypes.{type_number}
use Rattle.pddl_vocabulary.specs.VocabularyLists.{entries_said}
use Rattle.pddl_vocabulary.proofs.GatherLemmas.{gathered_pass, gathered_more, entries_step}
use Rattle.pddl_vocabulary.proofs.vocabulary_lists.entries_of.Goals as goal
use Rattle.pddl_vocabulary.proofs.vocabulary_lists.entries_of.Goals.{then-is_entry_word+in_ok-copy+in_ok-params_behind+in_ok-push, else-is_entry_word}

pub loop-place-preserved : goal.loop-place-preserved
loop-place-preserved c =
    let words = c.args.words.now in
    let types = c.args.types.now in
    let k = c.args.kind in
    let place = c.loop-place.place in
    let w = c.item-word.result.now in
    let behind = drop (place + 1) words in
    let made = c.loop-place.made in
    elim c.if-is_entry_word.branch [
      | then-is_entry_word+in_ok-copy+in_ok-params_behind+in_ok-push v ↦
          gathered_more (entries_said (type_number types) k) refl words (entries_said (type_number types) k words) place w c.item-word.ensures made c.if-is_entry_word.made _
          (entries_step (type_number types) k w behind _ (sym c.is_entry_word.ensures ∙ v.if-is_entry_word.true)) c.loop-place.invariant
          (v.made-is ∙ v.in_ok-push.ensures.ok
          ∙ (λ i. let entry : Signature = record { name = v.in_ok-copy.ensures.ok i; params = v.in_ok-params_behind.ensures.ok i } in made ++ entry ∷ []))
      | else-is_entry_word v ↦
          gathered_pass (entries_said (type_number types) k) refl words (entries_said (type_number types) k words) place w c.item-word.ensures made c.if-is_entry_word.made
          (entries_step (type_number types) k w behind _ (sym c.is_entry_word.ensures ∙ v.if-is_entry_word.false)) c.loop-place.invariant v.made-is
    ]

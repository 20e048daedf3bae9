use Rattle.std.proofs.Common.{◌+◌, ◌≤◌, List, [], ◌∷◌, ◌++◌, length, drop, refl, ap, sym, ◌∙◌, arith}
use Rattle.std.specs.Prelude.{codes}
use Rattle.mre_base.specs.declared.text.Text.{Text}
use Rattle.pddl_names.specs.declared.role.Word.{Word}
use Rattle.pddl_vocabulary.specs.Values.{type_words}
use Rattle.pddl_vocabulary.proofs.GatherLemmas.{gathered_all, gathered_pass, gathered_more, type_name_is}
use Rattle.pddl_vocabulary.proofs.vocabulary_types.type_words.Goals as goal
use Rattle.pddl_vocabulary.proofs.vocabulary_types.type_words.Goals.{then-is_type_name+in_ok-copy+in_ok-push-2, else-is_type_name}

abbrev whole : List Word → List Text
whole words = codes "object" ∷ type_words words

pub loop-place-init : goal.loop-place-init
loop-place-init c =
    ap (λ (l : List Text). l ++ type_words c.args.words.now) (c.in_ok-push.ensures.ok ∙ (λ i. c.empty-made.ensures i ++ c.in_ok-of.ensures.ok i ∷ []))

pub loop-place-preserved : goal.loop-place-preserved
loop-place-preserved c =
    let words = c.args.words.now in
    let place = c.loop-place.place in
    let w = c.item-word.result.now in
    let behind = drop (place + 1) words in
    elim c.if-is_type_name.branch [
      | then-is_type_name+in_ok-copy+in_ok-push-2 v ↦
          gathered_more type_words refl words (whole words) place w c.item-word.ensures c.loop-place.made c.if-is_type_name.made w.text
          (type_name_is w.role w.text (type_words behind) _ (sym c.is_type_name.ensures ∙ v.if-is_type_name.true)) c.loop-place.invariant
          (v.made-is ∙ v.in_ok-push-2.ensures.ok ∙ (λ i. c.loop-place.made ++ v.in_ok-copy.ensures.ok i ∷ []))
      | else-is_type_name v ↦
          gathered_pass type_words refl words (whole words) place w c.item-word.ensures c.loop-place.made c.if-is_type_name.made
          (type_name_is w.role w.text (type_words behind) _ (sym c.is_type_name.ensures ∙ v.if-is_type_name.false)) c.loop-place.invariant v.made-is
    ]

pub returns : goal.returns
returns c =
    let past : length c.args.words.now ≤ c.loop-place.place = omega arith in
    record { ok = gathered_all type_words refl c.args.words.now (whole c.args.words.now) c.loop-place.place c.loop-place.made past c.loop-place.invariant }

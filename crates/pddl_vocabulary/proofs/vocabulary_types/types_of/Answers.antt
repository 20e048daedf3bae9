use Rattle.std.proofs.Common.{ℕ}
use Rattle.mre_base.specs.declared.text.Text.{Text}
use Rattle.mre_base.proofs.Loops.{map_item}
use Rattle.pddl_vocabulary.specs.VocabularyTypes.{type_number}
use Rattle.pddl_vocabulary.specs.VocabularyLists.{type_said}
use Rattle.pddl_vocabulary.proofs.vocabulary_types.types_of.Goals as goal

pub loop-place-preserved : goal.loop-place-preserved
loop-place-preserved c =
    map_item c.args.names.now c.loop-place.place c.item-name.result.now c.item-name.ensures (type_said (type_number c.args.types.now) c.args.words.now) c.loop-place.made c.push.new.self _ c.loop-place.invariant c.in_ok-push.ensures.ok
    (λ i. let entry : Text × ℕ = (c.in_ok-copy.ensures.ok i, c.parent_number-parent.ensures i) in entry)

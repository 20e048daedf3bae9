use Rattle.std.proofs.Common.{◌≡◌, ap, sym, ◌∙◌}
use Rattle.std.specs.Str.{bytes_eq}
use Rattle.std.proofs.lemmas.List.{append-nil}
use Rattle.pddl_names.specs.Naming.{is_none}
use Rattle.pddl_names.specs.Numbers.{entry_name}
use Rattle.pddl_vocabulary.specs.VocabularyFirsts.{is_no_entry}
use Rattle.pddl_vocabulary.proofs.FirstsLemmas.{filter_item, put_new, kept_old, position_none, none_so}
use Rattle.pddl_vocabulary.proofs.vocabulary_firsts.with_further.Goals as goal
use Rattle.pddl_vocabulary.proofs.vocabulary_firsts.with_further.Goals.{then-is_none+in_ok-copied+in_ok-push, else-is_none}

pub loop-place-init : goal.loop-place-init
loop-place-init c = c.in_ok-made.ensures.ok ∙ sym (append-nil c.args.objects.now)

pub loop-place-preserved : goal.loop-place-preserved
loop-place-preserved c =
    let objects = c.args.objects.now in
    let x = c.item-entry.result.now in
    let old = c.loop-place.made in
    let lacks : is_no_entry objects x ≡ c.is_none.result =
    sym (position_none (λ f. bytes_eq (entry_name f) (entry_name x)) 0 objects)
    ∙ ap (λ o. is_none o) (sym (c.number.ensures ∙ c.in_ok-table.ensures.ok (entry_name x)))
    ∙ sym (none_so c.number.result c.is_none.result c.is_none.ensures) in
    let new = c.if-is_none.made in
    elim c.if-is_none.branch [
      | then-is_none+in_ok-copied+in_ok-push w ↦
          filter_item (is_no_entry objects) c.args.further.now c.loop-place.place x c.item-entry.ensures objects old new c.is_none.result lacks c.loop-place.invariant
          (put_new old new x c.is_none.result w.in_ok-copied.field-0 w.if-is_none.true (w.made-is ∙ w.in_ok-push.ensures.ok) w.in_ok-copied.ensures.ok)
      | else-is_none w ↦
          filter_item (is_no_entry objects) c.args.further.now c.loop-place.place x c.item-entry.ensures objects old new c.is_none.result lacks c.loop-place.invariant
          (kept_old old new x c.is_none.result w.if-is_none.false w.made-is)
    ]

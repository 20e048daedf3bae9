use Rattle.std.proofs.Common.{◌∙◌}
use Rattle.std.specs.List.{position_from}
use Rattle.std.specs.Str.{bytes_eq}
use Rattle.pddl_vocabulary.proofs.FirstsLemmas.{firsts_item, put_new, kept_old, told_by}
use Rattle.pddl_vocabulary.proofs.vocabulary_firsts.firsts_of.Goals as goal
use Rattle.pddl_vocabulary.proofs.vocabulary_firsts.firsts_of.Goals.{then-is_at+in_ok-copied+in_ok-push, else-is_at}

pub loop-place-preserved : goal.loop-place-preserved
loop-place-preserved g c =
    let entries = c.args.entries.now in
    let place = c.loop-place.place in
    let x = c.item-entry.result.now in
    let name_of = g.T.Named.name_of in
    let due = position_from (λ e. bytes_eq (name_of e) (name_of x)) 0 entries in
    let first = told_by c.in_ok-table.table c.name.result.now (name_of x) due place c.is_at.result c.is_at.ensures c.name.ensures (c.in_ok-table.ensures.ok (name_of x)) in
    let old = c.loop-place.made in
    let new = c.if-is_at.made in
    elim c.if-is_at.branch [
      | then-is_at+in_ok-copied+in_ok-push w ↦
          firsts_item name_of entries place x c.item-entry.ensures old new c.is_at.result first c.loop-place.invariant
          (put_new old new x c.is_at.result w.in_ok-copied.field-0 w.if-is_at.true (w.made-is ∙ w.in_ok-push.ensures.ok) w.in_ok-copied.ensures.ok)
      | else-is_at w ↦
          firsts_item name_of entries place x c.item-entry.ensures old new c.is_at.result first c.loop-place.invariant (kept_old old new x c.is_at.result w.if-is_at.false w.made-is)
    ]

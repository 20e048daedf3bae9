use Rattle.std.proofs.Common.{sym, ◌∙◌, [], get_or}
use Rattle.std.proofs.lemmas.Option.{get_or_from_slice_get}
use Rattle.mre_base.proofs.Loops.{map_item}
use Rattle.request_answers.proofs.grounding.print_list.Goals as goal

pub loop-place-preserved : goal.loop-place-preserved
loop-place-preserved c =
    let names = c.args.names.now.actions.items in
    map_item c.args.list.now c.loop-place.place c.item.result.now c.item.ensures (λ number. get_or names number []) c.loop-place.texts c.push.new.self c.in_ok-copy.field-0
    c.loop-place.invariant c.in_ok-push.ensures.ok
    (c.in_ok-copy.ensures.ok ∙ sym (get_or_from_slice_get names c.item.result.now c.action.result.now [] c.action.ensures))

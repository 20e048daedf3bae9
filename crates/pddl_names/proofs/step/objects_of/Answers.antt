use Rattle.std.proofs.Common.{◌∙◌, sym, ap, ◌+◌, drop}
use Rattle.pddl_names.specs.Reading.{objects_from, object_at}
use Rattle.pddl_names.proofs.WalkLemmas.{value_read, reading_stops, objects_step}
use Rattle.pddl_names.proofs.step.objects_of.Goals as goal

pub returns-in-Err : goal.returns-in-Err
returns-in-Err c =
    reading_stops (object_at c.args.words.now c.item-word.result.now c.item.result.now) _ _
    (c.loop-place.invariant ∙ objects_step c.args.words.now c.args.line.now c.args.types.now c.loop-place.found c.loop-place.place c.item-word.result.now c.item.result.now c.item-word.ensures c.item.ensures)
    c.in-Err.stop c.in-Err.ensures

pub loop-place-preserved : goal.loop-place-preserved
loop-place-preserved c =
    value_read (object_at c.args.words.now c.item-word.result.now c.item.result.now) _ _
    (c.loop-place.invariant ∙ objects_step c.args.words.now c.args.line.now c.args.types.now c.loop-place.found c.loop-place.place c.item-word.result.now c.item.result.now c.item-word.ensures c.item.ensures)
    c.in-Ok.object c.in-Ok.ensures
    ∙ ap (λ found. objects_from c.args.words.now found (drop (c.loop-place.place + 1 + 1) c.args.line.now) (drop (c.loop-place.place + 1) c.args.types.now)) (sym c.in_ok-push-in-Ok.ensures.ok)

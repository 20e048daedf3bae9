use Rattle.std.proofs.Common.{◌∙◌, sym, ap, ◌+◌, ◌<◌, drop, length}
use Rattle.mre_base.proofs.Loops.{All_item}
use Rattle.pddl_names.specs.Reading.{line_step, steps_from}
use Rattle.pddl_text.specs.declared.plan.PlanLine.{PlanLine}
use Rattle.pddl_names.proofs.WalkLemmas.{value_read, reading_stops, steps_step}
use Rattle.pddl_names.proofs.plan.steps_of.Goals as goal

pub step_of-requires-clause-named : goal.step_of-requires-clause-named
step_of-requires-clause-named c = All_item c.args.lines.now c.loop-place.place c.item.result.now c.item.ensures (λ (line : PlanLine). 0 < length line.words) c.requires.named

pub returns-in-Err : goal.returns-in-Err
returns-in-Err c =
    reading_stops (line_step c.args.words.now c.item.result.now.words) _ _
    (c.loop-place.invariant ∙ steps_step c.args.words.now c.args.lines.now c.loop-place.steps c.loop-place.place c.item.result.now c.item.ensures)
    c.in-Err.stop c.in-Err.ensures

pub loop-place-preserved : goal.loop-place-preserved
loop-place-preserved c =
    value_read (line_step c.args.words.now c.item.result.now.words) _ _
    (c.loop-place.invariant ∙ steps_step c.args.words.now c.args.lines.now c.loop-place.steps c.loop-place.place c.item.result.now c.item.ensures)
    c.in-Ok.step c.in-Ok.ensures
    ∙ ap (λ steps. steps_from c.args.words.now steps (drop (c.loop-place.place + 1) c.args.lines.now)) (sym c.in_ok-push-in-Ok.ensures.ok)

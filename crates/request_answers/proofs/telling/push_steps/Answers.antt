use Rattle.std.proofs.Common.{◌≡◌, ap, ◌∙◌}
use Rattle.request_answers.specs.Lines.{line}
use Rattle.request_answers.proofs.Pushed.{pushed}
use Rattle.request_answers.proofs.telling.push_steps.Goals as goal

pub loop-place-preserved : goal.loop-place-preserved
loop-place-preserved c =
    let is : c.in_ok-of.field-0 ≡ line c.item.result.now = c.in_ok-of.ensures.ok ∙ c.as_str.ensures.value ∙ c.in_ok-text.ensures.ok ∙ ap line c.as_str-step.ensures in
    pushed c.args.lines.now c.args.steps.now c.loop-place.place c.item.result.now c.item.ensures c.loop-place.lines c.push.new.self c.in_ok-of.field-0 c.loop-place.invariant is c.in_ok-push.ensures.ok

use Rattle.std.proofs.Common.{◌∙◌}
use Rattle.model_kit.proofs.values.value_at.Goals as goal

pub returns : goal.returns
returns c = λ list is. c.copied.ensures ∙ c.get.ensures.value ∙ is _

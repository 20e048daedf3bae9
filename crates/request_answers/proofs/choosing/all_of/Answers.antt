use Rattle.std.proofs.Common.{◌∙◌, ap}
use Rattle.request_answers.proofs.choosing.all_of.Goals as goal

pub returns : goal.returns
returns c = ap (λ m. m.undecided) c.result.view_is ∙ ap (λ m. m.undecided) c.root.ensures.is

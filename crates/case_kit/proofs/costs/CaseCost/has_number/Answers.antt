use Rattle.std.proofs.Common.{sym, ◌∙◌}
use Rattle.case_kit.proofs.EverLemmas.{ever_there, ever_back}
use Rattle.case_kit.proofs.costs.CaseCost.has_number.Goals as goal

pub returns : goal.returns
returns c known beside =
    (λ yes. ever_there c.args.self known c.requires beside (sym c.is_somewhere.ensures ∙ yes), λ some. c.is_somewhere.ensures ∙ ever_back c.args.self known c.requires beside some)

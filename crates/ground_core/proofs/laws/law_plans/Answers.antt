use Rattle.std.proofs.Common.{subst}
use Rattle.pair_rules.specs.Ruled.{models_of}
use Rattle.ground_core.specs.Names.{AreNamed}
use Rattle.ground_core.proofs.GroundLemmas.{actions_fit}
use Rattle.ground_core.proofs.NameLemmas.{numbers_by_names}
use Rattle.ground_core.proofs.laws.law_plans.Goals as goal

pub returns : goal.returns
returns c = λ planner user differences ground is numbers plan fits named.
    numbers_by_names planner.words is.actions (actions_fit (models_of planner user differences) is.atoms is.actions is.reachable) numbers plan fits (subst (λ names. AreNamed planner.words names numbers plan) is.actions_named named)

use Rattle.std.proofs.Common.{refl}
use Rattle.model_kit.proofs.ActionLemmas.{unknown_test}
use Rattle.feature_diff.proofs.ActionLemmas.{knows_means}
use Rattle.feature_diff.proofs.actions.knows.Goals as goal

pub returns : goal.returns
returns c =
    knows_means c.args.model.now c.args.action c.contains.result c.requires
    (unknown_test c.as_slice.result.now c.args.model.now.unknown c.args.action c.contains.result c.contains.result c.as_slice.ensures c.contains.ensures.value refl)

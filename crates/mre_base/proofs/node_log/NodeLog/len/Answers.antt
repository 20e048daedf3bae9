use Rattle.std.proofs.Common.{◌≢◌, AllPairs, subst}
use Rattle.std.proofs.lemmas.Map.Made.{AllPairs-from_IsDistinct}
use Rattle.mre_base.proofs.SameNodes.{eq-Decides}
use Rattle.mre_base.proofs.node_log.NodeLog.len.Goals as goal

pub returns-clause-distinct : goal.returns-clause-distinct
returns-clause-distinct c =
    subst (λ log. AllPairs (λ one two. one ≢ two) log.nodes) c.self.view_is (AllPairs-from_IsDistinct eq-Decides c.self.inside.nodes.keys c.len.ensures.unique)

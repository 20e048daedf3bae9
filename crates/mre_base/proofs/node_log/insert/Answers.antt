use Rattle.std.proofs.Common.{◌∙◌, ◌∷◌, [], ◌++◌, ap, if◌then◌else◌}
use Rattle.mre_base.proofs.SameNodes.{list_any-absent}
use Rattle.mre_base.proofs.node_log.insert.Goals as goal

pub returns-clause-ok : goal.returns-clause-ok
returns-clause-ok c =
    c.in_ok-insert.ensures.keys
    ∙ ap (λ b. if b then c.args.nodes.now.keys else c.args.nodes.now.keys ++ c.args.node ∷ []) (list_any-absent c.args.nodes.now.keys c.args.node c.requires)

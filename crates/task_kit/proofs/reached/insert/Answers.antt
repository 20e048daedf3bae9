use Rattle.std.proofs.Common.{[], ◌∷◌, ◌++◌, if◌then◌else◌, ap, ◌∙◌}
use Rattle.task_kit.proofs.SameStates.{list_any-absent}
use Rattle.task_kit.proofs.reached.insert.Goals as goal

pub returns : goal.returns
returns c =
    c.in_ok-insert.ensures.keys
    ∙ ap (λ b. if b then c.args.states.now.keys else c.args.states.now.keys ++ c.args.state ∷ []) (list_any-absent c.args.states.now.keys c.args.state c.requires)

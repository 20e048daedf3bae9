use Rattle.std.proofs.Common.{sym, subst}
use Rattle.pddl_names.specs.Forests.{IsStep}
use Rattle.pddl_names.proofs.ReachLemmas.{up_step}
use Rattle.pddl_names.proofs.forests.step_up.Goals as goal

pub returns-else-node_at-depth : goal.returns-else-node_at-depth
returns-else-node_at-depth c =
    subst (λ t. IsStep c.args.ups.now.items c.args.nodes.now.items c.args.from t c.args.depth) (sym c.up.ensures)
    (up_step c.args.ups.now.items c.args.nodes.now.items c.requires.forest c.args.from c.args.depth c.requires.from c.requires.deep)

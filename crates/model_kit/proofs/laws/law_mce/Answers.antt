use Rattle.model_kit.proofs.LawLemmas.{mce_law}
use Rattle.model_kit.proofs.PairLemmas.{plan_ground}
use Rattle.model_kit.proofs.laws.law_mce.Goals as goal

pub returns : goal.returns
returns c = λ words joint_planner joint_user places paired ground posed.
    mce_law words joint_planner joint_user places c.args.weights.now c.args.plan.now.steps posed
    (plan_ground c.args.planner.now.words c.args.user.now.words words paired.joint c.args.plan.now.steps ground)

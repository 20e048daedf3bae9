use Rattle.std.proofs.Common.{subst}
use Rattle.joint_models.specs.Renaming.{IsPartOf}
use Rattle.joint_models.proofs.Joint.{actions_known, actions_known_turned}
use Rattle.model_kit.proofs.SameParts.{one_joint}
use Rattle.joint_models.proofs.Paired.{planner_part, user_part, paired}
use Rattle.joint_models.proofs.joining.joined.Goals as goal

pub model_in-requires-clause-own_is : goal.model_in-requires-clause-own_is
model_in-requires-clause-own_is c =
    planner_part c.args.planner.now c.args.user.now c.in_ok-words.words c.requires.agree c.in_ok-words.ensures.ok c.in_ok-joint_lists.joint_lists c.in_ok-joint_lists.ensures.ok
    c.args.planner_lists.now c.in_ok-planner_numbers.planner_numbers c.requires.planner_are c.in_ok-planner_numbers.ensures.ok

pub model_in-requires-clause-other_is : goal.model_in-requires-clause-other_is
model_in-requires-clause-other_is c =
    user_part c.args.planner.now c.args.user.now c.in_ok-words.words c.requires.agree c.in_ok-words.ensures.ok c.in_ok-joint_lists.joint_lists c.in_ok-joint_lists.ensures.ok
    c.args.user_lists.now c.in_ok-user_numbers.user_numbers c.requires.user_are c.in_ok-user_numbers.ensures.ok

pub model_in-requires-clause-known : goal.model_in-requires-clause-known
model_in-requires-clause-known c = actions_known c.args.planner.now.words c.args.user.now.words c.requires.agree c.in_ok-words.words c.in_ok-words.ensures.ok

pub model_in-requires-2-clause-own_is : goal.model_in-requires-2-clause-own_is
model_in-requires-2-clause-own_is c =
    subst (λ w. IsPartOf w c.args.user.now c.args.user_lists.now c.in_ok-user_numbers.user_numbers)
    (one_joint c.args.planner.now.words c.args.user.now.words c.in_ok-words.words c.in_ok-user_words.user_words c.in_ok-words.ensures.ok c.in_ok-user_words.ensures.ok)
    (user_part c.args.planner.now c.args.user.now c.in_ok-words.words c.requires.agree c.in_ok-words.ensures.ok c.in_ok-joint_lists.joint_lists c.in_ok-joint_lists.ensures.ok
    c.args.user_lists.now c.in_ok-user_numbers.user_numbers c.requires.user_are c.in_ok-user_numbers.ensures.ok)

pub model_in-requires-2-clause-other_is : goal.model_in-requires-2-clause-other_is
model_in-requires-2-clause-other_is c =
    subst (λ w. IsPartOf w c.args.planner.now c.args.planner_lists.now c.in_ok-planner_numbers.planner_numbers)
    (one_joint c.args.planner.now.words c.args.user.now.words c.in_ok-words.words c.in_ok-user_words.user_words c.in_ok-words.ensures.ok c.in_ok-user_words.ensures.ok)
    (planner_part c.args.planner.now c.args.user.now c.in_ok-words.words c.requires.agree c.in_ok-words.ensures.ok c.in_ok-joint_lists.joint_lists c.in_ok-joint_lists.ensures.ok
    c.args.planner_lists.now c.in_ok-planner_numbers.planner_numbers c.requires.planner_are c.in_ok-planner_numbers.ensures.ok)

pub model_in-requires-2-clause-known : goal.model_in-requires-2-clause-known
model_in-requires-2-clause-known c = actions_known_turned c.args.planner.now.words c.args.user.now.words c.requires.agree c.in_ok-user_words.user_words c.in_ok-user_words.ensures.ok

pub returns-clause-ok : goal.returns-clause-ok
returns-clause-ok c =
    paired c.args.planner.now c.args.user.now c.in_ok-words.words c.in_ok-user_words.user_words c.in_ok-joint_planner.joint_planner c.in_ok-joint_user.joint_user c.requires.planner_whole c.requires.user_whole
    c.requires.agree c.in_ok-words.ensures.ok c.in_ok-user_words.ensures.ok c.in_ok-joint_planner.ensures.ok c.in_ok-joint_user.ensures.ok

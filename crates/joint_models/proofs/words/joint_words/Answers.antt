use Rattle.std.proofs.Common.{◌∙◌}
use Rattle.model_kit.specs.Words.{is_vocabulary}
use Rattle.model_kit.proofs.WordFacts.{facts_of_words}
use Rattle.joint_models.specs.Renaming.{joined_by, numbers_between}
use Rattle.joint_models.proofs.Joint.{joined_is, joint_sound}
use Rattle.joint_models.proofs.words.joint_words.Goals as goal

pub invariant_of-result : goal.invariant_of-result
invariant_of-result c =
    let planner = c.args.planner.now in
    let user = c.args.user.now in
    let agree = c.requires.agree in
    let types = c.in_ok-types.ensures.ok ∙ (λ i. numbers_between (c.requires.user_are.types i) (c.requires.planner_are.types i)) in
    let facts = facts_of_words user in
    let predicates = c.in_ok-joined.ensures.ok ∙ (λ i. joined_by (types i) (c.requires.planner_are.predicates i) user.predicates) ∙ joined_is planner user agree planner.predicates user.predicates facts.predicates_kept in
    let functions = c.in_ok-joined-2.ensures.ok ∙ (λ i. joined_by (types i) (c.requires.planner_are.functions i) user.functions) ∙ joined_is planner user agree planner.functions user.functions facts.functions_kept in
    let actions = c.in_ok-joined-3.ensures.ok ∙ (λ i. joined_by (types i) (c.requires.planner_are.actions i) user.actions) ∙ joined_is planner user agree planner.actions user.actions facts.actions_kept in
    record {
      sound = (λ i. is_vocabulary (c.in_ok-copied.ensures.ok i) (c.in_ok-copied-2.ensures.ok i) (predicates i) (functions i) (actions i)) ∙ joint_sound planner user agree;
    }

pub returns : goal.returns
returns c =
    let planner = c.args.planner.now in
    let user = c.args.user.now in
    let agree = c.requires.agree in
    let types = c.in_ok-types.ensures.ok ∙ (λ i. numbers_between (c.requires.user_are.types i) (c.requires.planner_are.types i)) in
    let facts = facts_of_words user in
    record {
      ok = record {
        types = c.in_ok-copied.ensures.ok;
        objects = c.in_ok-copied-2.ensures.ok;
        predicates = c.in_ok-joined.ensures.ok ∙ (λ i. joined_by (types i) (c.requires.planner_are.predicates i) user.predicates) ∙ joined_is planner user agree planner.predicates user.predicates facts.predicates_kept;
        functions = c.in_ok-joined-2.ensures.ok ∙ (λ i. joined_by (types i) (c.requires.planner_are.functions i) user.functions) ∙ joined_is planner user agree planner.functions user.functions facts.functions_kept;
        actions = c.in_ok-joined-3.ensures.ok ∙ (λ i. joined_by (types i) (c.requires.planner_are.actions i) user.actions) ∙ joined_is planner user agree planner.actions user.actions facts.actions_kept;
      };
    }

-- Two models in the numbers of their joint vocabulary are a pair.
use Rattle.std.proofs.Common.{◌≡◌, [], sym, subst, ◌∙◌}
use Rattle.model_kit.specs.declared.vocabulary.Vocabulary.{Vocabulary}
use Rattle.model_kit.specs.declared.model.Model.{Model}
use Rattle.model_kit.specs.Pairs.{Agree, IsJoint, IsModelIn, ArePaired}
use Rattle.joint_models.specs.declared.lists.Lists.{Lists}
use Rattle.joint_models.specs.declared.numbers.Numbers.{Numbers}
use Rattle.joint_models.specs.Lists.{AreListsOf}
use Rattle.joint_models.specs.Renaming.{numbers_between, AreNumbers, HasAllOf, IsPartOf}
use Rattle.model_kit.proofs.SameParts.{one_joint}
use Rattle.joint_models.proofs.Joint.{planner_whole, user_whole}

part_of : (words : Vocabulary) (model : Model) (lists joint_lists : Lists) (numbers : Numbers) → HasAllOf words model.words → AreListsOf model.words lists → AreListsOf words joint_lists → AreNumbers lists joint_lists numbers → IsPartOf words model lists numbers
part_of words model lists joint_lists numbers whole own joint are = record {
  whole = whole;
  lists_are = own;
  objects = are.objects ∙ (λ i. numbers_between (own.objects i) (joint.objects i));
  predicates = are.predicates ∙ (λ i. numbers_between (own.predicates i) (joint.predicates i));
  functions = are.functions ∙ (λ i. numbers_between (own.functions i) (joint.functions i));
}

module _ (planner user : Model) (words : Vocabulary) (agree : Agree planner.words user.words) (joint : IsJoint planner.words user.words words) (joint_lists : Lists) (listed : AreListsOf words joint_lists) where
  pub planner_part : (lists : Lists) (numbers : Numbers) → AreListsOf planner.words lists → AreNumbers lists joint_lists numbers → IsPartOf words planner lists numbers
  planner_part lists numbers own are = part_of words planner lists joint_lists numbers (planner_whole planner.words user.words agree words joint) own listed are

  pub user_part : (lists : Lists) (numbers : Numbers) → AreListsOf user.words lists → AreNumbers lists joint_lists numbers → IsPartOf words user lists numbers
  user_part lists numbers own are = part_of words user lists joint_lists numbers (user_whole planner.words user.words agree words joint) own listed are

pub paired : (planner user : Model) (words user_words : Vocabulary) (joint_planner joint_user : Model) → planner.unknown ≡ [] → user.unknown ≡ [] → Agree planner.words user.words
    → IsJoint planner.words user.words words → IsJoint planner.words user.words user_words → IsModelIn words planner user joint_planner → IsModelIn user_words user planner joint_user
    → ArePaired planner user joint_planner.words joint_planner joint_user
paired planner user words user_words joint_planner joint_user planner_known user_known agree joint user_joint planner_in user_in =
    let back = sym planner_in.words_are in record {
      planner_whole = planner_known;
      user_whole = user_known;
      agree = agree;
      joint = subst (IsJoint planner.words user.words) back joint;
      planner_in = subst (λ w. IsModelIn w planner user joint_planner) back planner_in;
      user_in = subst (λ w. IsModelIn w user planner joint_user) (one_joint planner.words user.words user_words words user_joint joint ∙ back) user_in;
    }

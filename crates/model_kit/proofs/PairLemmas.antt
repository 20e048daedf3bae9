-- A ground action of the planner's vocabulary is one of the joint vocabulary.
use Rattle.std.proofs.Common.{◌≡◌, ℕ, zero, suc, true, false, List, [], ◌∷◌, ◌++◌, Some, sym, ap, subst, ◌∙◌}
use Rattle.std.specs.Prelude.{All, slice_get}
use Rattle.std.specs.Option.{option_map_or}
use Rattle.std.proofs.lemmas.List.Elements.{All-weaker}
use Rattle.std.specs.Cmp.Lexicographic.{pointwise}
use Rattle.model_kit.specs.declared.vocabulary.Vocabulary.{Vocabulary}
use Rattle.model_kit.specs.declared.action.GroundAction.{GroundAction}
use Rattle.model_kit.specs.Types.{is_of_type}
use Rattle.model_kit.specs.Vocabulary.{is_object_of, IsGroundAction}
use Rattle.model_kit.specs.Pairs.{IsJoint}
use Rattle.model_kit.proofs.TypeLemmas.{entry_passes, entry_from}
use Rattle.mre_base.proofs.Listed.{slice_get-append}

module _ (planner user words : Vocabulary) (joint : IsJoint planner user words) where
  -- an object is of the same types
  pub same_object : is_object_of words ≡ is_object_of planner
  same_object = λ i object type. option_map_or (λ entry. is_of_type (joint.types i) entry.1 type) (slice_get (joint.objects i) object) false

  pub joint_ground : (action : GroundAction) → IsGroundAction planner action → IsGroundAction words action
  joint_ground action fits =
      let at = entry_passes (λ s. pointwise (is_object_of planner) action.objects s.params) planner.actions action.schema fits in
      let there : slice_get words.actions action.schema ≡ Some at.0 =
      ap (λ actions. slice_get actions action.schema) joint.actions ∙ slice_get-append planner.actions _ action.schema at.0 at.1 in
      entry_from (λ s. pointwise (is_object_of words) action.objects s.params) words.actions action.schema at.0 there
      (subst (λ is_of. pointwise is_of action.objects at.0.params ≡ true) (sym same_object) at.2)

  pub plan_ground : (plan : List GroundAction) → All (IsGroundAction planner) plan → All (IsGroundAction words) plan
  plan_ground plan = All-weaker (IsGroundAction planner) (IsGroundAction words) joint_ground plan

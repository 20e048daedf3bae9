-- A valid list of ground actions only takes reachable actions and makes reachable atoms true.
use Rattle.std.proofs.Common.{List, [], ◌∷◌, refl, subst, inl, inr}
use Rattle.std.specs.Prelude.{All}
use Rattle.std.specs.List.{AllByRecursion}
use Rattle.std.proofs.lemmas.List.Elements.{recursion_from_All}
use Rattle.cube_kit.specs.Cubes.{Told}
use Rattle.model_kit.specs.declared.atom.GroundAtom.{GroundAtom}
use Rattle.model_kit.specs.declared.action.GroundAction.{GroundAction}
use Rattle.model_kit.specs.Places.{Init, Pre, Add}
use Rattle.model_kit.specs.Vocabulary.{IsGroundAction}
use Rattle.model_kit.specs.Runs.{State, instance, Applies, After, Leads, IsGoal, IsValid, Initial as first_state}
use Rattle.named_tables.specs.Models.{Models, after_told}
use Rattle.named_tables.specs.Reachable.{Atom, Action, Reachable, Initial, Enabled, Added}
use Rattle.named_tables.proofs.CaseLemmas.{either_has, both_have}

-- each reachable action is a ground action
pub reached_fits : (models : Models) (action : GroundAction) → Reachable models (Action action) → IsGroundAction models.words action
reached_fits models action (Enabled a fits some needs) = fits

module _ (models : Models) (told : Told) where
  enabled : (state : State) → ((atom : GroundAtom) → state atom → Reachable models (Atom atom)) → (action : GroundAction) → IsGroundAction models.words action → Applies (after_told models told) state action → Reachable models (Action action)
  enabled state inside action fits does =
      Enabled action fits (told, does.priced) (λ f planner user. inside (instance action.objects f) (does.met (instance action.objects f) (f, both_have models told (Pre action.schema f) planner user, refl)))

  after_inside : (state : State) → ((atom : GroundAtom) → state atom → Reachable models (Atom atom)) → (action : GroundAction) → Reachable models (Action action) → (atom : GroundAtom) → After (after_told models told) state action atom → Reachable models (Atom atom)
  after_inside state inside action reached atom (inl (holds, spared)) = inside atom holds
  after_inside state inside action reached atom (inr (f, on, is)) = subst (λ a. Reachable models (Atom a)) is (Added action f reached (either_has models told (Add action.schema f) on))

  all_reached : (plan : List GroundAction) (state : State) → ((atom : GroundAtom) → state atom → Reachable models (Atom atom)) → AllByRecursion (IsGroundAction models.words) plan
      → Leads (after_told models told) state plan (IsGoal (after_told models told)) → AllByRecursion (λ action. Reachable models (Action action)) plan
  all_reached [] state inside fits runs = tt
  all_reached (action ∷ plan) state inside (fits, rest) (does, runs) =
      let reached = enabled state inside action fits does in
      (reached, all_reached plan (After (after_told models told) state action) (after_inside state inside action reached) rest runs)

  pub valid_reached : (plan : List GroundAction) → All (IsGroundAction models.words) plan → IsValid (after_told models told) plan → AllByRecursion (λ action. Reachable models (Action action)) plan
  valid_reached plan fits valid =
      all_reached plan (first_state (after_told models told)) (λ atom has. Initial atom (either_has models told (Init atom) has)) (recursion_from_All (IsGroundAction models.words) plan fits) valid

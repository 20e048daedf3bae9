-- Why a plan isn't explained, from the step that stopped.
use Rattle.std.proofs.Common.{◌≡◌, ℕ, List, [], ◌∷◌, map, refl, sym, ◌∙◌, arith}
use Rattle.std.proofs.lemmas.Option.{get_or_from_slice_get}
use Rattle.model_kit.specs.declared.vocabulary.Vocabulary.{Vocabulary}
use Rattle.model_kit.specs.declared.model.Model.{Model}
use Rattle.model_kit.specs.declared.action.GroundAction.{GroundAction}
use Rattle.model_kit.specs.Printed.{action_form}
use Rattle.model_kit.specs.Places.{meaning}
use Rattle.model_kit.specs.Runs.{IsValid, cost}
use Rattle.feature_diff.specs.declared.difference.Difference.{Difference}
use Rattle.feature_diff.specs.Differing.{AreDifferencesOf}
use Rattle.ground_core.specs.declared.table.Ground.{Ground}
use Rattle.ground_core.specs.Grounds.{IsGroundOf}
use Rattle.ground_core.specs.Names.{AreNamed}
use Rattle.ground_core.proofs.RunLemmas.{cheapest_law}
use Rattle.request_answers.specs.declared.stop.AnswerStop.{AnswerStop}
use Rattle.request_answers.specs.declared.stop.AnswerStop.TheVariants.{NotValid, NotCheapest, NoMemory}
use Rattle.request_answers.specs.Tables.{forms_of}
use Rattle.request_answers.specs.Steps.{IsOfPlan, IsOfList, IsOfSearch}

-- the printed forms with these numbers are those of the steps
pub forms_are : (words : Vocabulary) (names : List (List ℕ)) (numbers : List ℕ) (steps : List GroundAction) → AreNamed words names numbers steps → forms_of names numbers ≡ map (action_form words) steps
forms_are words names [] [] are = refl
forms_are words names [] (step ∷ steps) are = absurd (are)
forms_are words names (number ∷ numbers) [] are = absurd (are)
forms_are words names (number ∷ numbers) (step ∷ steps) (here, are) = λ i. get_or_from_slice_get names number (action_form words step) [] here i ∷ forms_are words names numbers steps are i

module _ (planner : Model) (plan : List GroundAction) (count : ℕ) where
  pub of_plan : (stop : AnswerStop) → IsOfPlan planner.words (meaning planner) plan stop → IsOfSearch planner plan count stop
  of_plan (NotValid fault) of = of
  of_plan NoMemory of = tt
  of_plan _ of = absurd of

  -- the list that is cheaper in the table is a cheaper plan
  pub of_list : (user : Model) (differences : List Difference) (ground : Ground) → IsGroundOf planner user differences ground → AreDifferencesOf planner user differences
      → IsValid (meaning planner) plan → (price : ℕ) → price ≡ cost (meaning planner) plan
      → (stop : AnswerStop) → IsOfList ground price stop → IsOfSearch planner plan count stop
  of_list user differences ground is all valid price costs (NotCheapest costs_here other texts) of =
      let under = of.1 in
      let named = cheapest_law planner user differences ground is all under.list under.cheapest in
      record {
        valid = valid;
        costs_are = of.0 ∙ costs;
        list = named.steps;
        printed = under.printed ∙ forms_are planner.words ground.names.actions.items under.list named.steps named.are;
        fits = named.fits;
        cheapest = named.cheapest;
        other_is = under.other_is ∙ sym named.costs;
        less = omega (arith, of.0, under.less);
      }
  of_list user differences ground is all valid price costs NoMemory of = tt
  of_list user differences ground is all valid price costs _ of = absurd of

-- A question's plan in the table of its models: its numbers run as its steps do.
use Rattle.std.proofs.Common.{◌≡◌, ℕ, ◌≤◌, ◌<◌, suc, List, [], ◌∷◌, length, replicate, sym, ap, ◌∙◌, subst, arith}
use Rattle.std.specs.Prelude.{All}
use Rattle.std.proofs.lemmas.List.{length-map}
use Rattle.std.proofs.lemmas.List.Elements.{All-nil, All-cons}
use Rattle.std.proofs.lemmas.Option.{slice_get_within}
use Rattle.cube_kit.specs.Cubes.{Told, all_to}
use Rattle.task_kit.specs.Tasks as numbered
use Rattle.case_kit.specs.Members.{member}
use Rattle.table_explanations.specs.Explanations as numbers
use Rattle.table_explanations.specs.Explanations.{even}
use Rattle.model_kit.specs.declared.vocabulary.Vocabulary.{Vocabulary}
use Rattle.model_kit.specs.declared.model.Model.{Model}
use Rattle.model_kit.specs.declared.action.GroundAction.{GroundAction}
use Rattle.model_kit.specs.Vocabulary.{IsGroundAction}
use Rattle.model_kit.specs.Printed.{action_form}
use Rattle.model_kit.specs.Places.{Meaning, meaning}
use Rattle.model_kit.specs.Differences.{patched}
use Rattle.model_kit.specs.Runs.{IsValid, IsCheapest, cost}
use Rattle.model_kit.specs.Explanations.{IsMCE}
use Rattle.feature_diff.specs.declared.difference.Difference.{Difference}
use Rattle.feature_diff.specs.Differing.{AreDifferencesOf, places_of}
use Rattle.ground_core.specs.declared.table.Ground.{Ground}
use Rattle.ground_core.specs.Grounds.{IsGroundOf}
use Rattle.ground_core.specs.Laws.{AreAlike}
use Rattle.ground_core.specs.Names.{AreNamed, AreListed}
use Rattle.ground_core.proofs.RunLemmas.{explanation_law, listed_law, after_all}
use Rattle.plain_program.specs.declared.answer.FirstComplete.{FirstComplete}
use Rattle.plain_program.specs.Answers.{IsFirstComplete}
use Rattle.request_answers.specs.Tasks.{even_task}

-- numbers of steps are as many as the steps, and each is that of a listed action
pub as_many : (words : Vocabulary) (names : List (List ℕ)) (plan : List ℕ) (steps : List GroundAction) → AreNamed words names plan steps → length plan ≡ length steps
as_many words names [] [] are = omega arith
as_many words names [] (step ∷ steps) are = absurd (are)
as_many words names (number ∷ plan) [] are = absurd (are)
as_many words names (number ∷ plan) (step ∷ steps) are = ap suc (as_many words names plan steps are.1)

listed_names : (words : Vocabulary) (names : List (List ℕ)) (plan : List ℕ) (steps : List GroundAction) → AreNamed words names plan steps → All (λ number. number < length names) plan
listed_names words names [] [] are = All-nil (λ number. number < length names)
listed_names words names [] (step ∷ steps) are = absurd (are)
listed_names words names (number ∷ plan) [] are = absurd (are)
listed_names words names (number ∷ plan) (step ∷ steps) are =
    All-cons (λ n. n < length names) number plan (slice_get_within names number (action_form words step) are.0) (listed_names words names plan steps are.1)

module _ (planner user : Model) (differences : List Difference) (ground : Ground) (is : IsGroundOf planner user differences ground) where
  pub names_are : length ground.names.actions.items ≡ length ground.table.actions
  names_are = ap length is.actions_named ∙ length-map is.actions (action_form planner.words) ∙ sym is.table.one_each

  pub differences_are : ground.table.d ≡ length differences
  differences_are = is.counted

  module _ (all : AreDifferencesOf planner user differences) (steps : List GroundAction) (fits : All (IsGroundAction planner.words) steps) where
    pub steps_listed : IsValid (meaning planner) steps → AreListed planner.words ground.names.actions.items steps
    steps_listed valid = listed_law planner user differences ground is all steps fits valid

    module _ (plan : List ℕ) (named : AreNamed planner.words ground.names.actions.items plan steps) where
      pub plan_listed : All (λ action. action < length ground.table.actions) plan
      plan_listed = subst (λ n. All (λ action. action < n) plan) names_are (listed_names planner.words ground.names.actions.items plan steps named)

      pub plan_short : length steps ≤ 10000 → length plan ≤ 10000
      plan_short short = omega (arith, short, as_many planner.words ground.names.actions.items plan steps named)

      alike : AreAlike (even_task planner user differences steps) (even ground.table plan)
      alike =
          subst (λ n. AreAlike (even_task planner user differences steps) (record { table = ground.table; plan = plan; weights = replicate n 1 })) (sym is.counted)
          (explanation_law planner user differences ground is steps plan (replicate (length differences) 1) fits named)

      abbrev whole : Told
      whole = all_to ground.table.d

      after : patched (meaning planner) (meaning user) (places_of differences) whole ≡ meaning planner
      after = after_all planner user differences ground is all

      pub plan_valid : IsValid (meaning planner) steps → numbered.IsValid (member ground.table whole) plan
      plan_valid valid = (alike.valid whole).0 (subst (λ (model : Meaning). IsValid model steps) (sym after) valid)

      pub plan_costs : (price : ℕ) → price ≡ cost (meaning planner) steps → price ≡ numbered.cost_of (member ground.table whole) plan
      plan_costs price costs = costs ∙ ap (λ (model : Meaning). cost model steps) (sym after) ∙ alike.cost whole

      pub steps_cheapest : numbers.IsCheapest (member ground.table whole) plan → IsCheapest planner.words (meaning planner) steps
      steps_cheapest cheapest = subst (λ (model : Meaning). IsCheapest planner.words model steps) after ((alike.complete whole).1 cheapest)

      -- the first complete set of the table is that of the models
      pub first_named : (first : FirstComplete) → IsFirstComplete (even ground.table plan) first → IsMCE (even_task planner user differences steps) first.told
      first_named first found = (alike.mce first.told).1 found.mce

      pub first_costs : (first : FirstComplete) → IsFirstComplete (even ground.table plan) first → first.cost ≡ cost (patched (meaning planner) (meaning user) (places_of differences) first.told) steps
      first_costs first found = found.costs ∙ sym (alike.cost first.told)

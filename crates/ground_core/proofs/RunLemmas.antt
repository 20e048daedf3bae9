-- Lists of ground actions run in the user's model as their numbers run in the ground's table.
use Rattle.std.proofs.Common.{◌≡◌, ℕ, List, [], ◌∷◌, length, map, ◌∙◌, sym, ap, subst, arith}
use Rattle.std.specs.Prelude.{◌↔◌, All, option_map}
use Rattle.std.proofs.lemmas.List.{length-map}
use Rattle.std.proofs.lemmas.List.Elements.{All-nil, All-cons, All-head, All-tail}
use Rattle.std.proofs.lemmas.Option.{slice_get-map}
use Rattle.mre_base.proofs.Listed.{item_contained}
use Rattle.cube_kit.specs.Cubes.{Told, single, all_to}
use Rattle.task_kit.specs.Tasks as numbered
use Rattle.task_kit.specs.Tasks.{TaskMeaning}
use Rattle.case_kit.specs.Evaluated.{permissive, restrictive}
use Rattle.case_kit.specs.Members.{member}
use Rattle.case_kit.proofs.TableLemmas.{member_law}
use Rattle.table_explanations.specs.Explanations as table_sets
use Rattle.table_explanations.specs.Explanations.{Reconciliation}
use Rattle.model_kit.specs.declared.model.Model.{Model}
use Rattle.model_kit.specs.declared.vocabulary.Vocabulary.{Vocabulary}
use Rattle.model_kit.specs.declared.action.GroundAction.{GroundAction}
use Rattle.model_kit.specs.Explanations as named_sets
use Rattle.model_kit.specs.Laws.{task_of}
use Rattle.model_kit.specs.Places.{Meaning, meaning}
use Rattle.model_kit.specs.Printed.{action_form}
use Rattle.model_kit.specs.Runs as named
use Rattle.model_kit.specs.Vocabulary.{IsGroundAction}
use Rattle.model_kit.proofs.PlaceLemmas.{all_of, patched_all}
use Rattle.feature_diff.specs.declared.difference.Difference.{Difference}
use Rattle.feature_diff.specs.Differing.{AreDifferencesOf, place_of, places_of}
use Rattle.named_tables.specs.Models.{Models, after_told}
use Rattle.named_tables.specs.Numbered.{AreNumbersOf, RunsAsNamed}
use Rattle.named_tables.proofs.LawLemmas.{run_law}
use Rattle.pair_rules.specs.Ruled.{models_of}
use Rattle.ground_core.specs.declared.table.Ground.{Ground}
use Rattle.ground_core.specs.Grounds.{IsGroundOf}
use Rattle.ground_core.specs.Names.{AreNamed, IsListed, AreListed}
use Rattle.ground_core.specs.Laws.{RunsInTable, GroundingLaw, ListedLaw, AreAlike, ExplanationLaw, IsCheapestByName, CheapestLaw}
use Rattle.ground_core.proofs.GroundLemmas.{actions_fit}
use Rattle.ground_core.proofs.NameLemmas.{numbers_by_names}

-- numbers of actions are numbers by their names
names_by_numbers : (words : Vocabulary) (actions : List GroundAction) (numbers : List ℕ) (plan : List GroundAction) → AreNumbersOf actions numbers plan → AreNamed words (map (action_form words) actions) numbers plan
names_by_numbers words actions [] [] are = tt
names_by_numbers words actions [] (step ∷ plan) are = absurd (are)
names_by_numbers words actions (number ∷ numbers) [] are = absurd (are)
names_by_numbers words actions (number ∷ numbers) (step ∷ plan) (here, are) =
    (slice_get-map (action_form words) actions number ∙ ap (option_map (action_form words)) here, names_by_numbers words actions numbers plan are)

-- what has numbers by its names is listed
listed_by_names : (words : Vocabulary) (names : List (List ℕ)) (numbers : List ℕ) (plan : List GroundAction) → All (IsGroundAction words) plan → AreNamed words names numbers plan → AreListed words names plan
listed_by_names words names [] [] fits are = All-nil (IsListed words names)
listed_by_names words names [] (step ∷ plan) fits are = absurd (are)
listed_by_names words names (number ∷ numbers) [] fits are = absurd (are)
listed_by_names words names (number ∷ numbers) (step ∷ plan) fits (here, are) =
    All-cons (IsListed words names) step plan (All-head (IsGroundAction words) step plan fits, item_contained names number (action_form words step) here)
    (listed_by_names words names numbers plan (All-tail (IsGroundAction words) step plan fits) are)

module _ (planner user : Model) (differences : List Difference) (ground : Ground) (is : IsGroundOf planner user differences ground) where
  abbrev models : Models
  models = models_of planner user differences

  runs : (told : Told) → RunsAsNamed models is.actions ground.table told
  runs told = run_law models is.atoms is.actions ground.table is.reachable is.table told

  by_names : (numbers : List ℕ) (plan : List GroundAction) → AreNumbersOf is.actions numbers plan → AreNamed planner.words ground.names.actions.items numbers plan
  by_names numbers plan are = subst (λ names. AreNamed planner.words names numbers plan) (sym is.actions_named) (names_by_numbers planner.words is.actions numbers plan are)

  by_numbers : (numbers : List ℕ) (plan : List GroundAction) → All (IsGroundAction planner.words) plan → AreNamed planner.words ground.names.actions.items numbers plan → AreNumbersOf is.actions numbers plan
  by_numbers numbers plan fits are =
      numbers_by_names planner.words is.actions (actions_fit models is.atoms is.actions is.reachable) numbers plan fits
      (subst (λ names. AreNamed planner.words names numbers plan) is.actions_named are)

  -- both tasks of the cube of one set are the table's member
  permissive_is : (told : Told) → permissive ground.table (single ground.table.d told) ≡ member ground.table told
  permissive_is told = member_law.permissive_single ground.table told

  restrictive_is : (told : Told) → restrictive ground.table (single ground.table.d told) ≡ member ground.table told
  restrictive_is told = member_law.restrictive_single ground.table told

  in_table : (told : Told) (plan : List GroundAction) → All (IsGroundAction planner.words) plan → named.IsValid (after_told models told) plan
      → RunsInTable planner.words ground told plan (named.cost (after_told models told) plan)
  in_table told plan fits valid =
      let (numbers, are) = (runs told).listed plan fits valid in
      let runs_there : numbered.IsValid (member ground.table told) numbers = ((runs told).valid plan numbers are).0 valid in
      let same_cost : named.cost (after_told models told) plan ≡ numbered.cost_of (member ground.table told) numbers = (runs told).cost plan numbers are in
      record {
        numbers = numbers;
        are = by_names numbers plan are;
        permissive_valid = subst (λ task. numbered.IsValid task numbers) (sym (permissive_is told)) runs_there;
        restrictive_valid = subst (λ task. numbered.IsValid task numbers) (sym (restrictive_is told)) runs_there;
        permissive_cost = ap (λ task. numbered.cost_of task numbers) (permissive_is told) ∙ sym same_cost;
        restrictive_cost = ap (λ task. numbered.cost_of task numbers) (restrictive_is told) ∙ sym same_cost;
      }

  in_model : (told : Told) (plan : List GroundAction) (cost : ℕ) → All (IsGroundAction planner.words) plan → RunsInTable planner.words ground told plan cost → named.IsValid (after_told models told) plan
  in_model told plan cost fits there =
      let are = by_numbers there.numbers plan fits there.are in
      ((runs told).valid plan there.numbers are).1 (subst (λ task. numbered.IsValid task there.numbers) (permissive_is told) there.permissive_valid)

  -- with all differences told the user's model is the planner's
  pub planner_after_all : AreDifferencesOf planner user differences → after_told models (all_of (length (places_of differences))) ≡ meaning planner
  planner_after_all all = patched_all (meaning planner) (meaning user) (places_of differences) all.all.agree

  pub valid_is_listed : AreDifferencesOf planner user differences → (plan : List GroundAction) → All (IsGroundAction planner.words) plan → named.IsValid (meaning planner) plan → AreListed planner.words ground.names.actions.items plan
  valid_is_listed all plan fits valid =
      let told = all_of (length (places_of differences)) in
      let (numbers, are) = (runs told).listed plan fits (subst (λ model. named.IsValid model plan) (sym (planner_after_all all)) valid) in
      listed_by_names planner.words ground.names.actions.items numbers plan fits (by_names numbers plan are)

  -- ---- explanations

  count : length (places_of differences) ≡ ground.table.d
  count = length-map differences place_of ∙ sym is.counted

  cheapest_alike : (told : Told) (plan : List GroundAction) (numbers : List ℕ) → AreNumbersOf is.actions numbers plan
      → named.IsCheapest planner.words (after_told models told) plan ↔ table_sets.IsCheapest (member ground.table told) numbers
  cheapest_alike told plan numbers are = (
    λ cheapest. let both = ((runs told).cheapest plan numbers are).0 cheapest in record { valid = both.0; least = both.1 },
    λ cheapest. ((runs told).cheapest plan numbers are).1 (cheapest.valid, cheapest.least),
  )

  module _ (plan : List GroundAction) (numbers weights : List ℕ) (fits : All (IsGroundAction planner.words) plan) (are : AreNamed planner.words ground.names.actions.items numbers plan) where
    abbrev task : named_sets.Task
    task = task_of planner.words planner user (places_of differences) weights plan

    abbrev q : Reconciliation
    q = record { table = ground.table; plan = numbers; weights = weights }

    of_plan : AreNumbersOf is.actions numbers plan
    of_plan = by_numbers numbers plan fits are

    complete_alike : (told : Told) → named_sets.IsComplete task told ↔ table_sets.IsComplete q told
    complete_alike told = cheapest_alike told plan numbers of_plan

    within_table : (told : Told) → named_sets.IsWithin task told → table_sets.IsWithin q told
    within_table told within k there = let bounds = within k there in (bounds.0, omega (arith, bounds.1, count))

    within_task : (told : Told) → table_sets.IsWithin q told → named_sets.IsWithin task told
    within_task told within k there = let bounds = within k there in (bounds.0, omega (arith, bounds.1, count))

    monotonic_alike : (told : Told) → named_sets.IsMonotonic task told ↔ table_sets.IsMonotonic q told
    monotonic_alike told = (
      λ stays more within inside. (complete_alike more).0 (stays more (within_task more within) inside),
      λ stays more within inside. (complete_alike more).1 (stays more (within_table more within) inside),
    )

    first_alike : (P Q : Told → Type 0) → ((told : Told) → P told ↔ Q told) → (told : Told) → named_sets.IsFirst task P told ↔ table_sets.IsFirst q Q told
    first_alike P Q alike told = (
      λ first. record {
        within = within_table told first.within;
        has = (alike told).0 first.has;
        first = λ other within has apart. first.first other (within_task other within) ((alike other).1 has) apart;
      },
      λ first. record {
        within = within_task told first.within;
        has = (alike told).1 first.has;
        first = λ other within has apart. first.first other (within_table other within) ((alike other).0 has) apart;
      },
    )

    pub are_alike : AreAlike task q
    are_alike = record {
      valid = λ told. (runs told).valid plan numbers of_plan;
      complete = complete_alike;
      monotonic = monotonic_alike;
      mce = first_alike (named_sets.IsComplete task) (table_sets.IsComplete q) complete_alike;
      mme = first_alike (named_sets.IsMonotonic task) (table_sets.IsMonotonic q) monotonic_alike;
      cost = λ told. (runs told).cost plan numbers of_plan;
    }

  pub after_all : AreDifferencesOf planner user differences → after_told models (all_to ground.table.d) ≡ meaning planner
  after_all all = ap (λ n. after_told models (all_to n)) (sym count) ∙ planner_after_all all

  pub cheapest_by_name : AreDifferencesOf planner user differences → (numbers : List ℕ) → table_sets.IsCheapest (member ground.table (all_to ground.table.d)) numbers
      → IsCheapestByName planner.words ground.names.actions.items (meaning planner) numbers (numbered.cost_of (member ground.table (all_to ground.table.d)) numbers)
  cheapest_by_name all numbers cheapest =
      let told = all_to ground.table.d in
      let (steps, are, fits) = (runs told).of_names numbers cheapest.valid in
      record {
        steps = steps;
        are = by_names numbers steps are;
        fits = fits;
        cheapest = subst (λ (model : Meaning). named.IsCheapest planner.words model steps) (after_all all) ((cheapest_alike told steps numbers are).1 cheapest);
        costs = ap (λ (model : Meaning). named.cost model steps) (sym (after_all all)) ∙ (runs told).cost steps numbers are;
      }

pub grounding_law : GroundingLaw
grounding_law planner user differences ground is told plan fits =
    (λ valid. in_table planner user differences ground is told plan fits valid, λ there. in_model planner user differences ground is told plan (named.cost (after_told (models_of planner user differences) told) plan) fits there)

pub listed_law : ListedLaw
listed_law planner user differences ground is all plan fits valid = valid_is_listed planner user differences ground is all plan fits valid

pub explanation_law : ExplanationLaw
explanation_law planner user differences ground is plan numbers weights fits are = are_alike planner user differences ground is plan numbers weights fits are

pub cheapest_law : CheapestLaw
cheapest_law planner user differences ground is all numbers cheapest = cheapest_by_name planner user differences ground is all numbers cheapest

-- The printed forms of what a table lists, and the numbers of a plan's steps by them.
use Rattle.std.specs.Prelude.{ℕ, ◌≡◌, ◌≤◌, List, [], ◌∷◌, Option, None, Some, length, slice_get}
use Rattle.std.specs.Prelude.{All, AllPairs, Contains}
use Rattle.model_kit.specs.declared.vocabulary.Vocabulary.{Vocabulary}
use Rattle.model_kit.specs.declared.action.GroundAction.{GroundAction}
use Rattle.model_kit.specs.Differences.{IsPrintedBefore}
use Rattle.model_kit.specs.Printed.{action_form}
use Rattle.model_kit.specs.Vocabulary.{IsGroundAction}

-- both ascend, and there are no more of either than a table may list
pub record AreNames (atoms actions : List (List ℕ)) : Type 0 where
  pub atoms_ascend : AllPairs IsPrintedBefore atoms
  pub actions_ascend : AllPairs IsPrintedBefore actions
  pub few_atoms : length atoms ≤ 4096
  pub few_actions : length actions ≤ 50000

-- the numbers are those of the printed forms of a plan's steps
abbrev pub AreNamed : Vocabulary → List (List ℕ) → List ℕ → List GroundAction → Type 0
AreNamed words names [] [] = Unit {0}
AreNamed words names (number ∷ numbers) (step ∷ steps) =
    (slice_get names number ≡ Some (action_form words step)) × AreNamed words names numbers steps
AreNamed words names [] (step ∷ steps) = ⊥
AreNamed words names (number ∷ numbers) [] = ⊥

-- the step is a ground action, and its printed form is listed
abbrev pub IsListed : Vocabulary → List (List ℕ) → GroundAction → Type 0
IsListed words names step = IsGroundAction words step × Contains names (action_form words step)

-- each step is listed, and some step isn't
abbrev pub AreListed : Vocabulary → List (List ℕ) → List GroundAction → Type 0
AreListed words names steps = All (IsListed words names) steps

abbrev pub IsUnlisted : Vocabulary → List (List ℕ) → List GroundAction → Type 0
IsUnlisted words names steps =
    (step : GroundAction) × Contains steps step × (¬ IsListed words names step)

-- the numbers are those of the steps, which are ground actions
abbrev pub AreFound : Vocabulary → List (List ℕ) → List GroundAction → List ℕ → Type 0
AreFound words names steps numbers =
    AreNamed words names numbers steps × All (IsGroundAction words) steps

-- the number of the step, or none exactly where it isn't listed
abbrev pub IsPlaceOf : Vocabulary → List (List ℕ) → GroundAction → Option ℕ → Type 0
IsPlaceOf words names step None = ¬ IsListed words names step
IsPlaceOf words names step (Some number) =
    IsGroundAction words step × (slice_get names number ≡ Some (action_form words step))

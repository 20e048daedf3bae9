-- The counts that have limits: parameters, objects, differences and the steps of the plan.
use Rattle.std.specs.Prelude.{ℕ, ◌≡◌, ◌≤◌, ◌<◌, max, List, [], ◌∷◌, length}
use Rattle.model_kit.specs.declared.vocabulary.Vocabulary.{Vocabulary}
use Rattle.model_kit.specs.declared.vocabulary.Signature.{Signature}
use Rattle.model_kit.specs.declared.model.Model.{Model}
use Rattle.model_kit.specs.declared.action.GroundAction.{GroundAction}
use Rattle.feature_diff.specs.declared.difference.Difference.{Difference}
use Rattle.feature_diff.specs.Differing.{AreDifferencesOf, AreTooMany}

-- the largest number of parameters of one of these
abbrev pub most_of : List Signature → ℕ
most_of [] = 0
most_of (signature ∷ rest) = max (length signature.params) (most_of rest)

-- the largest number of parameters of an action, a predicate or a function
abbrev pub most_parameters : Vocabulary → ℕ
most_parameters words =
    max (most_of words.actions) (max (most_of words.predicates) (most_of words.functions))

-- at most 8 parameters and at most 1000 objects
pub record AreSmall (words : Vocabulary) : Type 0 where
  pub parameters : most_parameters words ≤ 8
  pub objects : length words.objects ≤ 1000

-- these are all differences of the two models, and no count is past its limit
pub record AreWithinLimits (planner user : Model) (plan : List GroundAction)
    (differences : List Difference) : Type 0 where
  pub small : AreSmall planner.words
  pub all : AreDifferencesOf planner user differences
  pub few : length differences ≤ 256
  pub short : length plan ≤ 10000

-- the largest number of parameters is this, and more than 8
pub record AreTooManyParameters (words : Vocabulary) (found : ℕ) : Type 0 where
  pub counted : found ≡ most_parameters words
  pub many : 8 < found

-- the number of objects is this, and more than 1000; the parameters are within their limit
pub record AreTooManyObjects (words : Vocabulary) (found : ℕ) : Type 0 where
  pub parameters : most_parameters words ≤ 8
  pub counted : found ≡ length words.objects
  pub many : 1000 < found

-- the number of differences is this, and more than 256; parameters and objects are within limits
pub record AreTooManyDifferences (planner user : Model) (found : ℕ) : Type 0 where
  pub small : AreSmall planner.words
  pub many : AreTooMany planner user found

-- the number of steps is this, and more than 10000; each count before is within its limit
pub record AreTooManySteps (planner user : Model) (plan : List GroundAction)
    (found : ℕ) : Type 0 where
  pub small : AreSmall planner.words
  pub differences : List Difference
  pub all : AreDifferencesOf planner user differences
  pub few : length differences ≤ 256
  pub counted : found ≡ length plan
  pub many : 10000 < found

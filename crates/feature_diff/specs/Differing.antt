-- A difference: its place, and the content of the place in the planner's model and in the user's.
-- And the list of all differences.
use Rattle.std.specs.Prelude.{ℕ, ◌≡◌, ◌≤◌, ◌<◌, not, IsTrue, List, map, length, All, Result, Ok}
use Rattle.std.specs.Prelude.{Err}
use Rattle.std.specs.Ordering.{nat_cmp}
use Rattle.std.specs.FinSet as set
use Rattle.model_kit.specs.declared.vocabulary.Vocabulary.{Vocabulary}
use Rattle.model_kit.specs.declared.model.Model.{Model}
use Rattle.model_kit.specs.Places as place
use Rattle.model_kit.specs.Places.{Place, Content, Feature, Price, Worth, Meaning, meaning}
use Rattle.model_kit.specs.Differences.{AreDifferences}
pub use Rattle.model_kit.specs.Features.{IsCost}
use Rattle.model_kit.specs.Vocabulary.{is_object_of, fits_signature, is_ground_atom, IsSchemaAtom}
use Rattle.feature_diff.specs.declared.difference.Difference.{Difference}
use Rattle.feature_diff.specs.declared.difference.Difference.TheVariants.{Init, Goal, Knows, Pre}
use Rattle.feature_diff.specs.declared.difference.Difference.TheVariants.{Add, Del, Cost, Value}
use Rattle.feature_diff.specs.declared.pair.DiffStop.{DiffStop}
use Rattle.feature_diff.specs.declared.pair.DiffStop.TheVariants.{TooMany, NoMemory}

-- the place of a difference
abbrev pub place_of : Difference → Place
place_of (Init atom has) = place.Init atom
place_of (Goal atom has) = place.Goal atom
place_of (Knows action has) = place.Knows action
place_of (Pre action atom has) = place.Pre action atom
place_of (Add action atom has) = place.Add action atom
place_of (Del action atom has) = place.Del action atom
place_of (Cost action planner user) = place.Cost action
place_of (Value function objects planner user) = place.Value function objects

abbrev pub places_of : List Difference → List Place
places_of differences = map place_of differences

-- its content in the planner's model
abbrev pub planner_content : Difference → Content
planner_content (Init atom has) = Feature has
planner_content (Goal atom has) = Feature has
planner_content (Knows action has) = Feature has
planner_content (Pre action atom has) = Feature has
planner_content (Add action atom has) = Feature has
planner_content (Del action atom has) = Feature has
planner_content (Cost action planner user) = Price planner
planner_content (Value function objects planner user) = Worth planner

-- its content in the user's model: a feature that the other hasn't, or another cost or value
abbrev pub user_content : Difference → Content
user_content (Init atom has) = Feature (not has)
user_content (Goal atom has) = Feature (not has)
user_content (Knows action has) = Feature (not has)
user_content (Pre action atom has) = Feature (not has)
user_content (Add action atom has) = Feature (not has)
user_content (Del action atom has) = Feature (not has)
user_content (Cost action planner user) = Price user
user_content (Value function objects planner user) = Worth user

-- the difference is one of the two models
pub record Says (planner user : Meaning) (difference : Difference) : Type 0 where
  pub planner_has : planner (place_of difference) ≡ planner_content difference
  pub user_has : user (place_of difference) ≡ user_content difference

-- the difference names what the vocabulary has
abbrev pub FitsWords : Vocabulary → Difference → Type 0
FitsWords words (Init atom has) = IsTrue (is_ground_atom words atom)
FitsWords words (Goal atom has) = IsTrue (is_ground_atom words atom)
FitsWords words (Knows action has) = action < length words.actions
FitsWords words (Pre action atom has) = (action < length words.actions) × IsSchemaAtom words atom
FitsWords words (Add action atom has) = (action < length words.actions) × IsSchemaAtom words atom
FitsWords words (Del action atom has) = (action < length words.actions) × IsSchemaAtom words atom
FitsWords words (Cost action planner user) =
    (action < length words.actions) × IsCost words planner × IsCost words user
FitsWords words (Value function objects planner user) =
    IsTrue (fits_signature (is_object_of words) words.functions function objects)

-- these are all differences of two models over one vocabulary, in their order
pub record AreDifferencesOf (planner user : Model) (differences : List Difference) : Type 0 where
  pub all : AreDifferences planner.words (meaning planner) (meaning user) (places_of differences)
  pub each : All (Says (meaning planner) (meaning user)) differences
  pub fit : All (FitsWords planner.words) differences

-- this is the number of differences, and it is more than 256
pub record AreTooMany (planner user : Model) (found : ℕ) : Type 0 where
  pub places : List Place
  pub all : AreDifferences planner.words (meaning planner) (meaning user) places
  pub counted : length places ≡ found
  pub many : 256 < found

-- if the answer is that there are too many, the fact holds of their number and the limit
abbrev pub IfTooMany : {T : Type 0} → Result T DiffStop → (ℕ → ℕ → Type 0) → Type 0
IfTooMany (Ok _) P = Unit {0}
IfTooMany (Err (TooMany found limit)) P = P found limit
IfTooMany (Err NoMemory) P = Unit {0}

-- the numbers are among those of the differences, which are at most 256
abbrev pub IsToldOf : Model → Model → set.FinSet nat_cmp → Type 0
IsToldOf planner user told =
    (places : List Place) → AreDifferences planner.words (meaning planner) (meaning user) places →
    (length places ≤ 256) × ((k : ℕ) → IsTrue (set.contains told k) → (1 ≤ k) × (k ≤ length places))

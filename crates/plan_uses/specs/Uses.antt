-- Which differences a plan uses: those at places of the actions that its steps are instances of. A
-- place is where two models can differ.
use Rattle.std.specs.Prelude.{ℕ, zero, suc, ◌≡◌, ◌≤◌, ◌-◌, ◌==◌, ◌↔◌, Bool, false, IsTrue, List}
use Rattle.std.specs.Prelude.{length, filter, Option, Some, None, IsSomeAnd, Any, slice_get}
use Rattle.std.specs.List.{list_any, range_with_len}
use Rattle.std.specs.Option.{option_map_or}
use Rattle.std.specs.Ordering.{nat_cmp}
use Rattle.std.specs.FinSet as set
use Rattle.model_kit.specs.declared.action.GroundAction.{GroundAction}
use Rattle.model_kit.specs.Places.{Place, Init, Goal, Knows, Pre, Add, Del, Cost, Value}

-- the action that a place belongs to: its knowledge, its preconditions, adds and deletes, and its
-- cost; facts and values belong to no action
abbrev pub action_of : Place → Option ℕ
action_of (Init atom) = None
action_of (Goal atom) = None
action_of (Knows action) = Some action
action_of (Pre action atom) = Some action
action_of (Add action atom) = Some action
action_of (Del action atom) = Some action
action_of (Cost action) = Some action
action_of (Value function objects) = None

-- the place belongs to an action of which some step of the plan is an instance
abbrev pub IsUsed : List GroundAction → Place → Type 0
IsUsed plan place = IsSomeAnd (action_of place) (λ action. Any (λ step. step.schema ≡ action) plan)

-- the place with this number, which counts from 1, is used
pub record IsUsedAt (plan : List GroundAction) (places : List Place) (number : ℕ) : Type 0 where
  pub place : Place
  pub counted : 1 ≤ number
  pub here : slice_get places (number - 1) ≡ Some place
  pub used : IsUsed plan place

-- the set has the numbers of the used places, and no other number
abbrev pub AreUsed : List GroundAction → List Place → set.FinSet nat_cmp → Type 0
AreUsed plan places chosen =
    (number : ℕ) → IsTrue (set.contains chosen number) ↔ IsUsedAt plan places number

-- whether a place is used, as a test
abbrev pub is_used : List GroundAction → Place → Bool
is_used plan place =
    option_map_or (λ action. list_any (λ step. step.schema == action) plan) (action_of place) false

-- whether the place with this number is used, as a test
abbrev pub is_used_at : List GroundAction → List Place → ℕ → Bool
is_used_at plan places zero = false
is_used_at plan places (suc n) = option_map_or (is_used plan) (slice_get places n) false

-- the numbers of the used places, in ascending order
abbrev pub used_numbers : List GroundAction → List Place → List ℕ
used_numbers plan places = filter (is_used_at plan places) (range_with_len 1 (length places))

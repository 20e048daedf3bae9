-- The differences of two models, and the user's model after some of them are told.
use Rattle.std.specs.Prelude.{ℕ, ◌≡◌, ◌≢◌, ◌+◌, ◌*◌, ◌<◌, ◌⊎◌, Bool, false, Option, None, Some}
use Rattle.std.specs.Prelude.{List, [], ◌∷◌, length, Contains, AllPairs, if◌then◌else◌}
use Rattle.std.specs.Ordering.{nat_cmp}
use Rattle.std.specs.Cmp.Lexicographic.{slice_cmp}
use Rattle.std.specs.declared.cmp.Ordering.TheVariants.{Less}
use Rattle.std.specs.FinSet as set
use Rattle.model_kit.specs.declared.vocabulary.Vocabulary.{Vocabulary}
use Rattle.model_kit.specs.Places.{Place, Init, Goal, Knows, Pre, Add, Del, Cost, Value, Meaning}
use Rattle.model_kit.specs.Places.{same_place}
use Rattle.model_kit.specs.Printed.{printed}

-- the groups in which differences are numbered: initial facts, goal facts, five groups for each
-- action, and last the values
abbrev pub group : Vocabulary → Place → ℕ
group words (Init atom) = 0
group words (Goal atom) = 1
group words (Knows action) = 2 + 5 * action
group words (Pre action atom) = 3 + 5 * action
group words (Add action atom) = 4 + 5 * action
group words (Del action atom) = 5 + 5 * action
group words (Cost action) = 6 + 5 * action
group words (Value f xs) = 2 + 5 * length words.actions

-- the printed form comes first in ASCII order
abbrev pub IsPrintedBefore : List ℕ → List ℕ → Type 0
IsPrintedBefore one two = slice_cmp nat_cmp one two ≡ Less

-- one place is listed before another: by group, and then by the printed form
abbrev pub IsListedBefore : Vocabulary → Place → Place → Type 0
IsListedBefore words p q =
    (group words p < group words q) ⊎ ((group words p ≡ group words q)
    × IsPrintedBefore (printed words p) (printed words q))

-- the models differ at each place of the list and agree at each other place, and the list is in
-- order
pub record AreDifferences (words : Vocabulary) (planner user : Meaning)
    (places : List Place) : Type 0 where
  pub differ : (p : Place) → Contains places p → planner p ≢ user p
  pub agree : (p : Place) → ¬ Contains places p → planner p ≡ user p
  pub ordered : AllPairs (IsListedBefore words) places

-- the number of a place passes the test, where the places of the list are numbered from k on
abbrev pub is_told : ℕ → List Place → (ℕ → Bool) → Place → Bool
is_told k [] passes p = false
is_told k (q ∷ places) passes p =
    if same_place q p then passes k else is_told (k + 1) places passes p

-- the number of the difference at a place, where the places of the list are numbered from k on
abbrev pub number_from : ℕ → List Place → Place → Option ℕ
number_from k [] place = None
number_from k (first ∷ places) place =
    if same_place first place then Some k else number_from (k + 1) places place

-- each place whose number is in the set as the planner has it, and each other place as the user has
-- it
abbrev pub patched : Meaning → Meaning → List Place → set.FinSet nat_cmp → Meaning
patched planner user places told p =
    if is_told 1 places (set.contains told) p then planner p else user p

-- Cuts of which each weighs as much as the cuts before it allow.
use Rattle.std.specs.Prelude.{ℕ, ◌+◌, ◌≡◌, true, false, List, [], ◌∷◌, ◌++◌, length, take, Some}
use Rattle.std.specs.Prelude.{slice_get, ◌⊎◌}
use Rattle.task_kit.specs.Tasks.{TaskMeaning, price}
use Rattle.task_kit.specs.Cuts.{CutMeaning, counts, weight_of}

-- with the cuts before it, the cut uses up the cost of an action that it counts
abbrev pub UsesUp : TaskMeaning → List CutMeaning → CutMeaning → Type 0
UsesUp task before cut =
    (action : ℕ) × (counts task action cut ≡ true)
    × (weight_of (counts task action) (before ++ cut ∷ []) ≡ price task action)

-- the cut counts no action: no list leads from the state to the goal
abbrev pub CountsNone : TaskMeaning → CutMeaning → Type 0
CountsNone task cut = (action : ℕ) → counts task action cut ≡ false

-- each cut uses up the cost of an action, but the last one may count no action
abbrev pub AreLean : TaskMeaning → List CutMeaning → Type 0
AreLean task cuts =
    (place : ℕ) (cut : CutMeaning) → slice_get cuts place ≡ Some cut
    → UsesUp task (take place cuts) cut ⊎ ((place + 1 ≡ length cuts) × CountsNone task cut)

-- The bounds of optional actions.
use Rattle.std.specs.Prelude.{ℕ, ◌<◌, Option, List, All}
use Rattle.std.specs.Option.{ForSome}

-- the action is below the bound, if there is one
abbrev pub IsBelow : ℕ → Option ℕ → Type 0
IsBelow bound o = ForSome o (λ action. action < bound)

-- each action is below the bound, where there is one
abbrev pub AreBelow : ℕ → List (Option ℕ) → Type 0
AreBelow bound actions = All (IsBelow bound) actions

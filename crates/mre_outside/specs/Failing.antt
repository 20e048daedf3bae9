-- Which calls on a shelf or a sink in memory fail, counted from 1, and what a failed call takes.
use Rattle.std.specs.Prelude.{ℕ, ◌/◌, ◌≤◌, List, take, length, Contains}
use Rattle.mre_outside.specs.declared.failing.FailingCalls.{FailingCalls}
use Rattle.mre_outside.specs.declared.failing.FailingCalls.TheVariants.{Listed, From}

-- the call with this number fails
abbrev pub Fails : FailingCalls → ℕ → Type 0
Fails (Listed numbers) call = Contains numbers call
Fails (From first) call = first ≤ call

-- no call fails
abbrev pub NoneFails : FailingCalls → Type 0
NoneFails failing = (call : ℕ) → ¬ Fails failing call

-- the first half of the bytes, rounded down
abbrev pub first_half : List ℕ → List ℕ
first_half bytes = take (length bytes / 2) bytes

-- With which number a process ends.
use Rattle.std.specs.Prelude.{◌≡◌, ℕ}
use Rattle.mre_top.specs.declared.ending.Ending.{Ending}
use Rattle.mre_top.specs.declared.top.Outcome.{Outcome}
use Rattle.mre_top.specs.Calls.{Call}
use Rattle.mre_top.specs.Promise.{Promise}

-- the number
abbrev pub code_of : Ending → ℕ
code_of ending = ending.code

-- it is the status of an outcome of which all is true that the top call promises
abbrev pub EndsAs : Call → ℕ → Type 0
EndsAs call code = (outcome : Outcome) × (code ≡ outcome.status) × Promise call outcome

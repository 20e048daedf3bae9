-- How a reading stops: at a rule and a place. The fault that it answers has an empty word.
use Rattle.std.specs.Prelude.{◌≡◌, Result, Ok, Err}
use Rattle.pddl_text.specs.declared.fault.TextFault.{TextFault}
use Rattle.pddl_text.specs.declared.fault.ReadStop.{ReadStop}
use Rattle.pddl_text.specs.declared.fault.ReadStop.TheVariants as stop
use Rattle.pddl_text.specs.declared.fault.Stop.{Stop}
use Rattle.pddl_text.specs.declared.fault.Stop.TheVariants as early
use Rattle.pddl_text.specs.Faults.{fault_at}

-- what holds of the fault, if the reading stops at one
abbrev pub IfStopped : {A : Type 0} → Result A Stop → (TextFault → Type 0) → Type 0
IfStopped (Ok value) holds = Unit {0}
IfStopped (Err (early.Fault at rule)) holds = holds (fault_at at rule)
IfStopped (Err early.NoMemory) holds = Unit {0}

-- what a reading on lists gives is found, unless memory ran out
abbrev pub Finds : {A : Type 0} → Result A Stop → Result A TextFault → Type 0
Finds (Ok value) read = read ≡ Ok value
Finds (Err (early.Fault at rule)) read = read ≡ Err (fault_at at rule)
Finds (Err early.NoMemory) read = Unit {0}

-- the answer of a reading that stopped this way, unless memory ran out
abbrev pub IsAnswered : Stop → ReadStop → Type 0
IsAnswered (early.Fault at rule) (stop.Fault fault) = fault ≡ fault_at at rule
IsAnswered early.NoMemory (stop.Fault fault) = ⊥
IsAnswered why stop.NoMemory = Unit {0}

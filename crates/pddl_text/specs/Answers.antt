-- What a reader answers: a value, a fault, or that memory ran out.
use Rattle.std.specs.Prelude.{◌≡◌, Result, Ok, Err}
use Rattle.pddl_text.specs.declared.fault.TextFault.{TextFault}
use Rattle.pddl_text.specs.declared.fault.ReadStop.{ReadStop}
use Rattle.pddl_text.specs.declared.fault.ReadStop.TheVariants as stop

-- what holds of the fault, if one is answered
abbrev pub IfFault : {A : Type 0} → Result A ReadStop → (TextFault → Type 0) → Type 0
IfFault (Ok value) holds = Unit {0}
IfFault (Err (stop.Fault fault)) holds = holds fault
IfFault (Err stop.NoMemory) holds = Unit {0}

-- this value is answered, unless memory ran out
abbrev pub AnswersOk : {A : Type 0} → Result A ReadStop → A → Type 0
AnswersOk (Ok value) due = value ≡ due
AnswersOk (Err (stop.Fault fault)) due = ⊥
AnswersOk (Err stop.NoMemory) due = Unit {0}

-- this fault is answered, unless memory ran out
abbrev pub AnswersFault : {A : Type 0} → Result A ReadStop → TextFault → Type 0
AnswersFault (Ok value) due = ⊥
AnswersFault (Err (stop.Fault fault)) due = fault ≡ due
AnswersFault (Err stop.NoMemory) due = Unit {0}

-- what a reading on lists gives is answered, unless memory ran out
abbrev pub Gives : {A : Type 0} → Result A ReadStop → Result A TextFault → Type 0
Gives (Ok value) read = read ≡ Ok value
Gives (Err (stop.Fault fault)) read = read ≡ Err fault
Gives (Err stop.NoMemory) read = Unit {0}

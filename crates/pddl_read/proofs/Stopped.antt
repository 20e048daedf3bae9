-- What holds of the fault of a reading may be weakened, and holds for readings of other values.
use Rattle.std.proofs.Common.{Err}
use Rattle.pddl_text.specs.declared.fault.TextFault.{TextFault}
use Rattle.pddl_text.specs.declared.fault.ReadStop.{ReadStop}
use Rattle.pddl_text.specs.declared.fault.ReadStop.TheVariants as stop
use Rattle.pddl_text.specs.Answers.{IfFault}

pub stopped : (A B : Type 0) (why : ReadStop) (P Q : TextFault → Type 0) → ((fault : TextFault) → P fault → Q fault) → IfFault {A = A} (Err why) P → IfFault {A = B} (Err why) Q
stopped A B (stop.Fault fault) P Q weaker holds = weaker fault holds
stopped A B stop.NoMemory P Q weaker holds = tt

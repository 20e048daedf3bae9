-- What holds of a fault may be weakened.
use Rattle.std.proofs.Common.{Result, Ok, Err}
use Rattle.pddl_text.specs.declared.fault.TextFault.{TextFault}
use Rattle.pddl_text.specs.declared.fault.Stop.{Stop}
use Rattle.pddl_text.specs.declared.fault.Stop.TheVariants as early
use Rattle.pddl_text.specs.Faults.{fault_at}
use Rattle.pddl_text.specs.Stops.{IfStopped}

pub if_stopped_weaker : {A : Type 0} (result : Result A Stop) (P Q : TextFault → Type 0) → ((fault : TextFault) → P fault → Q fault) → IfStopped result P → IfStopped result Q
if_stopped_weaker (Ok value) P Q weaker holds = tt
if_stopped_weaker (Err (early.Fault at rule)) P Q weaker holds = weaker (fault_at at rule) holds
if_stopped_weaker (Err early.NoMemory) P Q weaker holds = tt

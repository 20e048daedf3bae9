-- What a reading in progress makes of further tokens, and the fault that it answers.
use Rattle.std.specs.Prelude.{◌≡◌, List, reverse}
use Rattle.pddl_text.specs.declared.fault.ReadStop.{ReadStop}
use Rattle.pddl_text.specs.declared.fault.ReadStop.TheVariants as stop
use Rattle.pddl_text.specs.declared.fault.TextFault.{TextFault}
use Rattle.pddl_text.specs.Tokens.{Token}
use Rattle.pddl_form.specs.declared.reading.Reading.{Reading}
use Rattle.pddl_form.specs.Runs.{Run, run}

-- the fault is answered, unless memory ran out
abbrev pub Names : ReadStop → TextFault → Type 0
Names (stop.Fault fault) due = fault ≡ due
Names stop.NoMemory due = Unit {0}

-- the run of a reading over further tokens; its list of parts has the next one last
abbrev pub runs : Reading → List Token → Run
runs reading tokens = run (reverse reading.due.items) reading.met tokens

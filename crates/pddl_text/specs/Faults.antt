-- Faults without a word.
use Rattle.std.specs.Prelude.{[]}
use Rattle.pddl_text.specs.declared.place.Place.{Place}
use Rattle.pddl_text.specs.declared.fault.TextFault.{TextFault}
use Rattle.pddl_text.specs.declared.fault.TextRule.{TextRule}

-- the rule is broken at this place; the word is empty
abbrev pub fault_at : Place → TextRule → TextFault
fault_at at rule = record { at = at; rule = rule; word = [] }

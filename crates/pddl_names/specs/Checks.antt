-- The check of names as functions on lists, over what the whole text declares.
use Rattle.std.specs.Prelude.{ℕ, ◌+◌, List, [], Option, None, Some, Result, Ok, Err, if◌then◌else◌}
use Rattle.pddl_text.specs.declared.fault.TextFault.{TextFault}
use Rattle.pddl_text.specs.declared.fault.TextRule.{TextRule}
use Rattle.pddl_text.specs.declared.fault.TextRule.TheVariants as rule
use Rattle.pddl_names.specs.declared.role.Word.{Word}
use Rattle.pddl_names.specs.FirstNames.{first_broken}
use Rattle.pddl_names.specs.Listings.{Declared, is_term}
use Rattle.pddl_names.specs.Naming.{is_twice, is_cycle, is_undeclared, is_wrong_arity}
use Rattle.pddl_names.specs.Naming.{is_wrong_type}

-- the first rule that a word breaks, by what the whole text declares
abbrev pub first_rule_of : Declared → List Word → Word → List Word → Option TextRule
first_rule_of known before w rest =
    if is_twice known before w rest then Some rule.Twice
    else (if is_cycle known before w then Some rule.TypeCycle
    else (if is_undeclared known before w rest then Some rule.Undeclared
    else (if is_wrong_arity known w rest then Some rule.WrongArity
    else (if is_wrong_type known before w rest then Some rule.WrongType else None))))

-- no fault, or the first
abbrev pub unless_fault : Option TextFault → Result (Unit {0}) TextFault
unless_fault None = Ok tt
unless_fault (Some fault) = Err fault

-- the words break no rule of names, or there is a first fault
abbrev pub names_read : Declared → List Word → Result (Unit {0}) TextFault
names_read base words = unless_fault (first_broken base [] words)

-- where the terms of a word at a place begin, if it has any
abbrev pub next_from : Word → ℕ → ℕ → ℕ
next_from w place from = if is_term w then from else place + 1

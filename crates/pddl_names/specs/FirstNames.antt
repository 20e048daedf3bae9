-- How the first fault at a name is found, word by word, as functions on lists.
use Rattle.std.specs.Prelude.{Bool, List, [], ◌∷◌, ◌++◌, Option, None, Some, if◌then◌else◌}
use Rattle.pddl_text.specs.declared.fault.TextFault.{TextFault}
use Rattle.pddl_text.specs.declared.fault.TextRule.{TextRule}
use Rattle.pddl_text.specs.declared.fault.TextRule.TheVariants as rule
use Rattle.pddl_names.specs.declared.role.Word.{Word}
use Rattle.pddl_names.specs.Listings.{Declared}
use Rattle.pddl_names.specs.Naming.{breaks}

-- the first rule of names that is broken, in their order
abbrev pub first_rule : (TextRule → Bool) → Option TextRule
first_rule broken =
    if broken rule.Twice then Some rule.Twice
    else (if broken rule.TypeCycle then Some rule.TypeCycle
    else (if broken rule.Undeclared then Some rule.Undeclared
    else (if broken rule.WrongArity then Some rule.WrongArity
    else (if broken rule.WrongType then Some rule.WrongType else None))))

-- the fault of a word, or else that of the words after it
abbrev pub fault_or : Word → Option TextRule → Option TextFault → Option TextFault
fault_or w None behind = behind
fault_or w (Some r) behind = Some (record { at = w.at; rule = r; word = w.text })

-- the first fault at a name from here on
abbrev pub first_broken : Declared → List Word → List Word → Option TextFault
first_broken base before [] = None
first_broken base before (w ∷ rest) =
    fault_or w (first_rule (breaks base before w rest)) (first_broken base (before ++ w ∷ []) rest)

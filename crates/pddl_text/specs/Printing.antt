-- The printed form of a fault: `LINE:COLUMN: RULE WORD`.
use Rattle.std.specs.Prelude.{ℕ, List, [], ◌∷◌, ◌++◌, codes, decimal}
use Rattle.pddl_text.specs.declared.fault.TextFault.{TextFault}
use Rattle.pddl_text.specs.declared.fault.TextRule.{TextRule}
use Rattle.pddl_text.specs.declared.fault.TextRule.TheVariants as rule

-- the name of a rule
abbrev pub rule_name : TextRule → List ℕ
rule_name rule.Byte = codes "byte"
rule_name rule.Close = codes "close"
rule_name rule.Deep = codes "deep"
rule_name rule.Open = codes "open"
rule_name rule.Form = codes "form"
rule_name rule.Unsupported = codes "unsupported"
rule_name rule.NotWhole = codes "not-whole"
rule_name rule.Reserved = codes "reserved"
rule_name rule.Twice = codes "twice"
rule_name rule.TypeCycle = codes "type-cycle"
rule_name rule.Undeclared = codes "undeclared"
rule_name rule.WrongArity = codes "wrong-arity"
rule_name rule.WrongType = codes "wrong-type"

-- a blank and the word, or nothing if the word is empty
abbrev pub word_part : List ℕ → List ℕ
word_part [] = []
word_part (byte ∷ word) = codes " " ++ (byte ∷ word)

-- the place, the rule's name and the word, which is left out if it is empty
abbrev pub printed_fault : TextFault → List ℕ
printed_fault fault =
    decimal fault.at.line ++ (codes ":" ++ (decimal fault.at.column
    ++ (codes ": " ++ (rule_name fault.rule ++ word_part fault.word))))

-- The fault of the first token that no text of the grammar has there, by the part that was due.
use Rattle.std.specs.Prelude.{ℕ, ◌&&◌, Bool, true, false, List, [], ◌∷◌, codes, Option, None, Some}
use Rattle.std.specs.Prelude.{if◌then◌else◌}
use Rattle.pddl_text.specs.declared.fault.TextFault.{TextFault}
use Rattle.pddl_text.specs.declared.fault.TextRule.{TextRule}
use Rattle.pddl_text.specs.declared.fault.TextRule.TheVariants as rule
use Rattle.pddl_text.specs.declared.place.Place.{Place}
use Rattle.pddl_text.specs.Tokens.{Token}
use Rattle.pddl_text.specs.Tokens as token
use Rattle.pddl_form.specs.declared.parts.Part.{Part}
use Rattle.pddl_form.specs.declared.parts.Part.TheVariants as part
use Rattle.pddl_form.specs.declared.sort.Sort.{Sort}
use Rattle.pddl_form.specs.declared.sort.Sort.TheVariants as word
use Rattle.pddl_form.specs.Names.{is_reserved, is_name_sort, is_condition_word, is_effect_word}
use Rattle.pddl_form.specs.Names.{is_section_word}
use Rattle.pddl_form.specs.Words.{sort}

-- the word `not`
abbrev pub is_negation : Sort → Bool
is_negation word.Not = true
is_negation s = false

-- the word begins a form that is out of scope, where this part is due
abbrev pub is_unsupported : Part → Sort → Bool
is_unsupported part.ConditionHead s = is_condition_word s
is_unsupported part.GoalHead s = is_condition_word s
is_unsupported part.EffectHead s = is_effect_word s
is_unsupported part.FactHead s = is_negation s
is_unsupported (part.Section seen) s = is_section_word s
is_unsupported (part.Statement seen) s = is_section_word s
is_unsupported part.FunctionType s = is_name_sort s
is_unsupported part.TotalWord s = true
is_unsupported part.Metric s = true
is_unsupported p s = false

-- a number is due
abbrev pub is_number_due : Part → Bool
is_number_due part.Cost = true
is_number_due part.Number = true
is_number_due p = false

-- the name of an action, a predicate or a function that is declared is due
abbrev pub is_declared : Part → Bool
is_declared part.ActionName = true
is_declared part.PredicateName = true
is_declared part.FunctionName = true
is_declared p = false

-- the rule that a word breaks, the first that fits
abbrev pub word_rule : Part → Sort → TextRule
word_rule p s =
    if is_unsupported p s then rule.Unsupported
    else (if is_number_due p then rule.NotWhole
    else (if is_declared p && is_reserved s then rule.Reserved else rule.Form))

-- the word before several types
abbrev pub is_either : Sort → Bool
is_either word.Either = true
is_either s = false

-- a list that begins with the word is a form that is out of scope, where this part takes no list
abbrev pub is_unsupported_list : Part → Sort → Bool
is_unsupported_list (part.NameType listing) s = is_either s
is_unsupported_list (part.VariableType owner) s = is_either s
is_unsupported_list part.FunctionType s = is_either s
is_unsupported_list (part.Statements seen) s = is_section_word s
is_unsupported_list p s = false

-- the fault at a place, with its word
abbrev pub fault : Place → TextRule → List ℕ → TextFault
fault at rule word = record { at = at; rule = rule; word = word }

-- the word that a list begins with, from the tokens after its `(`
abbrev pub head : List Token → Option (List ℕ × Place)
head (token.Word text at from past ∷ tokens) = Some (text, at)
head tokens = None

-- the fault of a `(`; it is at the list's first word if that word is out of scope
abbrev pub open_fault : Part → Place → Option (List ℕ × Place) → TextFault
open_fault p at None = fault at rule.Form (codes "(")
open_fault p at (Some (text, first)) =
    if is_unsupported_list p (sort text) then fault first rule.Unsupported text
    else fault at rule.Form (codes "(")

-- the fault of a token that the part doesn't take, with the tokens after it
abbrev pub fault_at : Part → Token → List Token → TextFault
fault_at p (token.Word text at from past) tokens = fault at (word_rule p (sort text)) text
fault_at p (token.Open at) tokens = open_fault p at (head tokens)
fault_at p (token.Close at) tokens = fault at rule.Form (codes ")")
fault_at p (token.Stray at) tokens = fault at rule.Form []

-- the fault of a token where nothing is due
abbrev pub fault_past : Token → TextFault
fault_past (token.Word text at from past) = fault at rule.Form text
fault_past (token.Open at) = fault at rule.Form (codes "(")
fault_past (token.Close at) = fault at rule.Form (codes ")")
fault_past (token.Stray at) = fault at rule.Form []

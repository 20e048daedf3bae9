-- Rows of the table: actions, conditions, effects and costs. A row says what is due after a word.
use Rattle.std.specs.Prelude.{not, true}
use Rattle.pddl_form.specs.declared.parts.KeysSeen.{KeysSeen}
use Rattle.pddl_form.specs.declared.parts.Part.TheVariants as part
use Rattle.pddl_form.specs.declared.next.Next.{Next}
use Rattle.pddl_form.specs.declared.next.Next.TheVariants as next
use Rattle.pddl_form.specs.declared.sort.Sort.{Sort}
use Rattle.pddl_form.specs.declared.sort.Sort.TheVariants as word
use Rattle.pddl_form.specs.Rows.{only_if, no_keys}
use Rattle.pddl_form.specs.Names.{is_free_sort, is_name_sort, is_term_sort}

-- the name of an action, not reserved
abbrev pub action_name : Sort → Next
action_name s = only_if (is_free_sort s) (next.One (part.Keys no_keys))

-- each key of an action at most once
abbrev pub key : KeysSeen → Sort → Next
key seen word.Parameters =
    only_if (not seen.parameters) (next.Two part.ParameterList
    (part.Keys (record seen { parameters = true })))
key seen word.Precondition =
    only_if (not seen.precondition) (next.Two part.Condition
    (part.Keys (record seen { precondition = true })))
key seen word.Effect =
    only_if (not seen.effect) (next.Two part.Effect (part.Keys (record seen { effect = true })))
key seen s = next.Refused

-- `(and COND*)` or `(NAME TERM*)`
abbrev pub condition_head : Sort → Next
condition_head word.And = next.One part.Conditions
condition_head s = only_if (is_free_sort s) (next.One part.Terms)

-- `(and EFF*)`, `(not ATOM)`, `(increase (total-cost) COST)` or `(NAME TERM*)`
abbrev pub effect_head : Sort → Next
effect_head word.And = next.One part.Effects
effect_head word.Not = next.One part.Negated
effect_head word.Increase = next.Two part.Total part.Cost
effect_head s = only_if (is_free_sort s) (next.One part.Terms)

-- `(NAME TERM*)`
abbrev pub atom_head : Sort → Next
atom_head s = only_if (is_free_sort s) (next.One part.Terms)

-- `(total-cost)`
abbrev pub total_word : Sort → Next
total_word word.TotalCost = next.One part.Close
total_word s = next.Refused

-- a number, and the end of the increase
abbrev pub cost : Sort → Next
cost word.Numeral = next.One part.Close
cost s = next.Refused

-- `(NAME TERM*)` with a name other than `total-cost`
abbrev pub cost_head : Sort → Next
cost_head word.TotalCost = next.Refused
cost_head s = only_if (is_name_sort s) (next.One part.Terms)

-- a name or a variable
abbrev pub terms : Sort → Next
terms s = only_if (is_term_sort s) (next.One part.Terms)

-- Which words are names, and which are reserved or out of scope.
use Rattle.std.specs.Prelude.{◌||◌, Bool, true, false}
use Rattle.pddl_form.specs.declared.sort.Sort.{Sort}
use Rattle.pddl_form.specs.declared.sort.Sort.TheVariants as word

-- a word that is never declared as an action, a predicate or a function
abbrev pub is_reserved : Sort → Bool
is_reserved word.And = true
is_reserved word.Or = true
is_reserved word.Not = true
is_reserved word.Imply = true
is_reserved word.Forall = true
is_reserved word.Exists = true
is_reserved word.When = true
is_reserved word.Increase = true
is_reserved word.Decrease = true
is_reserved word.Assign = true
is_reserved word.ScaleUp = true
is_reserved word.ScaleDown = true
is_reserved word.Preference = true
is_reserved s = false

-- a name that is not reserved
abbrev pub is_free_sort : Sort → Bool
is_free_sort word.Either = true
is_free_sort word.Define = true
is_free_sort word.Domain = true
is_free_sort word.Problem = true
is_free_sort word.Minimize = true
is_free_sort word.TotalCost = true
is_free_sort word.NumberType = true
is_free_sort word.Numeral = true
is_free_sort word.Name = true
is_free_sort s = false

-- a word whose first byte is a letter, a digit or `_`
abbrev pub is_name_sort : Sort → Bool
is_name_sort s = is_reserved s || is_free_sort s

-- a name or a variable
abbrev pub is_term_sort : Sort → Bool
is_term_sort word.Variable = true
is_term_sort s = is_name_sort s

-- the head of a condition that is out of scope
abbrev pub is_condition_word : Sort → Bool
is_condition_word word.Or = true
is_condition_word word.Imply = true
is_condition_word word.Not = true
is_condition_word word.Forall = true
is_condition_word word.Exists = true
is_condition_word word.When = true
is_condition_word word.Equal = true
is_condition_word word.Less = true
is_condition_word word.Greater = true
is_condition_word word.AtMost = true
is_condition_word word.AtLeast = true
is_condition_word word.Preference = true
is_condition_word s = false

-- the head of an effect that is out of scope
abbrev pub is_effect_word : Sort → Bool
is_effect_word word.When = true
is_effect_word word.Forall = true
is_effect_word word.Assign = true
is_effect_word word.Decrease = true
is_effect_word word.ScaleUp = true
is_effect_word word.ScaleDown = true
is_effect_word s = false

-- the head of a section that is out of scope
abbrev pub is_section_word : Sort → Bool
is_section_word word.DurativeAction = true
is_section_word word.Derived = true
is_section_word word.Axiom = true
is_section_word word.Process = true
is_section_word word.Event = true
is_section_word word.Constraints = true
is_section_word word.Length = true
is_section_word s = false

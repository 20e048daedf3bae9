-- What each word of a domain or a problem does there, by the part of the grammar that it met.
use Rattle.std.specs.Prelude.{List, map}
use Rattle.pddl_form.specs.declared.parts.Listing.{Listing}
use Rattle.pddl_form.specs.declared.parts.Listing.TheVariants as listing
use Rattle.pddl_form.specs.declared.parts.Met.{Met}
use Rattle.pddl_form.specs.declared.parts.Part.{Part}
use Rattle.pddl_form.specs.declared.parts.Part.TheVariants as part
use Rattle.pddl_form.specs.declared.sort.Sort.{Sort}
use Rattle.pddl_form.specs.declared.sort.Sort.TheVariants as word
use Rattle.pddl_form.specs.Words.{sort}
use Rattle.pddl_names.specs.declared.role.Role.{Role}
use Rattle.pddl_names.specs.declared.role.Role.TheVariants as role
use Rattle.pddl_names.specs.declared.role.Says.TheVariants as says
use Rattle.pddl_names.specs.declared.role.Word.{Word}

-- what is listed, and its type
abbrev pub listed : Listing → Role
listed listing.Types = role.ListedType
listed listing.Constants = role.ListedObject
listed listing.Objects = role.ListedObject

abbrev pub typed : Listing → Role
typed listing.Types = role.ParentType
typed listing.Constants = role.ObjectType
typed listing.Objects = role.ObjectType

-- the role of a word where a part of a problem was due
abbrev pub problem_role : Part → Sort → Role
problem_role part.FactHead word.Equal = role.Other
problem_role part.FactHead s = role.Head says.Initial
problem_role part.ValuedHead word.TotalCost = role.Other
problem_role part.ValuedHead s = role.Value
problem_role part.Number s = role.Numeral
problem_role part.GoalHead word.And = role.Other
problem_role part.GoalHead s = role.Head says.Goal
problem_role part.Objects s = role.Term
problem_role part.Metric s = role.Metric
problem_role p s = role.Other

-- the role of a word of this sort where this part was due
abbrev pub role_at : Part → Sort → Role
role_at (part.Names l) s = listed l
role_at (part.NamesMore l) word.Dash = role.Dash
role_at (part.NamesMore l) s = listed l
role_at (part.NameType l) s = typed l
role_at part.PredicateName s = role.Predicate
role_at part.FunctionName s = role.Function
role_at part.ActionName s = role.Action
role_at (part.Variables owner) s = role.Variable owner
role_at (part.VariablesMore owner) word.Dash = role.Dash
role_at (part.VariablesMore owner) s = role.Variable owner
role_at (part.VariableType owner) s = role.VariableType
role_at part.ConditionHead word.And = role.Other
role_at part.ConditionHead s = role.Head says.Needed
role_at part.Terms s = role.Term
role_at part.EffectHead word.And = role.Other
role_at part.EffectHead word.Not = role.Other
role_at part.EffectHead word.Increase = role.Increase
role_at part.EffectHead s = role.Head says.Added
role_at part.NegatedHead s = role.Head says.Deleted
role_at part.Cost s = role.Numeral
role_at part.CostHead s = role.Cost
role_at p s = problem_role p s

-- a word with its role
abbrev pub word_of : Met → Word
word_of met = record { role = role_at met.part (sort met.text); text = met.text; at = met.at }

-- the words of a text
abbrev pub words_of : List Met → List Word
words_of met = map word_of met

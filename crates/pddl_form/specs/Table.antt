-- The table of the grammars: what is due in place of a part that took a token. That is two parts at
-- most, and what was due after the part stays due after them.
use Rattle.std.specs.Prelude.{◌&&◌, not, Bool, true, false}
use Rattle.pddl_form.specs.declared.parts.Owner.TheVariants as owner
use Rattle.pddl_form.specs.declared.parts.Part.{Part}
use Rattle.pddl_form.specs.declared.parts.Part.TheVariants as part
use Rattle.pddl_form.specs.declared.next.Next.{Next}
use Rattle.pddl_form.specs.declared.next.Next.TheVariants as next
use Rattle.pddl_form.specs.declared.sort.Sort.{Sort}
use Rattle.pddl_form.specs.Rows.{only_if, no_statements, have_all_stood}
use Rattle.pddl_form.specs.Names.{is_name_sort}
use Rattle.pddl_form.specs.Typed.{names, names_more, variables, variables_more}
use Rattle.pddl_form.specs.Domains.{domain_define, domain_word, section, predicate_name}
use Rattle.pddl_form.specs.Domains.{function_name, function_tail, function_type}
use Rattle.pddl_form.specs.Actions.{action_name, key, condition_head, effect_head, atom_head}
use Rattle.pddl_form.specs.Actions.{total_word, cost, cost_head, terms}
use Rattle.pddl_form.specs.Problems.{problem_define, problem_word, of_domain_word, statement}
use Rattle.pddl_form.specs.Problems.{fact_head, valued_head, goal_head, objects, metric}

-- what is due after a word, where a part of a problem was due
abbrev pub after_problem_word : Part → Sort → Next
after_problem_word part.ProblemDefine s = problem_define s
after_problem_word part.ProblemWord s = problem_word s
after_problem_word part.ProblemName s = only_if (is_name_sort s) (next.One part.Close)
after_problem_word part.OfDomainWord s = of_domain_word s
after_problem_word part.OfDomainName s = only_if (is_name_sort s) (next.One part.Close)
after_problem_word (part.Statement seen) s = statement seen s
after_problem_word part.FactHead s = fact_head s
after_problem_word part.ValuedHead s = valued_head s
after_problem_word part.Number s = cost s
after_problem_word part.GoalHead s = goal_head s
after_problem_word part.Objects s = objects s
after_problem_word part.Metric s = metric s
after_problem_word p s = next.Refused

-- what is due after a word, in place of the part that was due
abbrev pub after_word : Part → Sort → Next
after_word part.DomainDefine s = domain_define s
after_word part.DomainWord s = domain_word s
after_word part.DomainName s = only_if (is_name_sort s) (next.One part.Close)
after_word (part.Section seen) s = section seen s
after_word part.Words s = next.One part.Words
after_word (part.Names listing) s = names listing s
after_word (part.NamesMore listing) s = names_more listing s
after_word (part.NameType listing) s = only_if (is_name_sort s) next.Nothing
after_word part.PredicateName s = predicate_name s
after_word (part.Variables owner) s = variables owner s
after_word (part.VariablesMore owner) s = variables_more owner s
after_word (part.VariableType owner) s = only_if (is_name_sort s) next.Nothing
after_word part.FunctionName s = function_name s
after_word part.FunctionTail s = function_tail s
after_word part.FunctionType s = function_type s
after_word part.ActionName s = action_name s
after_word (part.Keys seen) s = key seen s
after_word part.ConditionHead s = condition_head s
after_word part.Terms s = terms s
after_word part.EffectHead s = effect_head s
after_word part.NegatedHead s = atom_head s
after_word part.TotalWord s = total_word s
after_word part.Cost s = cost s
after_word part.CostHead s = cost_head s
after_word p s = after_problem_word p s

-- what is due after a `(`, in place of the part that was due
abbrev pub after_open : Part → Next
after_open part.Domain = next.One part.DomainDefine
after_open part.DomainHead = next.One part.DomainWord
after_open (part.Sections seen) = next.One (part.Section seen)
after_open part.Predicates = next.Two part.PredicateName part.Predicates
after_open part.Functions = next.Two part.FunctionName part.FunctionTail
after_open part.FunctionTail = next.Two part.FunctionName part.FunctionTail
after_open part.ParameterList = next.One (part.Variables owner.Action)
after_open part.Condition = next.One part.ConditionHead
after_open part.Conditions = next.Two part.ConditionHead part.Conditions
after_open part.Effect = next.One part.EffectHead
after_open part.Effects = next.Two part.EffectHead part.Effects
after_open part.Negated = next.Two part.NegatedHead part.Close
after_open part.Total = next.One part.TotalWord
after_open part.Cost = next.Two part.CostHead part.Close
after_open part.Problem = next.One part.ProblemDefine
after_open part.ProblemHead = next.One part.ProblemWord
after_open part.OfDomain = next.Two part.OfDomainWord (part.Statements no_statements)
after_open (part.Statements seen) =
    only_if (not (have_all_stood seen)) (next.One (part.Statement seen))
after_open part.Facts = next.Two part.FactHead part.Facts
after_open part.Valued = next.One part.ValuedHead
after_open part.Goal = next.Two part.GoalHead part.Close
after_open part.Goals = next.Two part.GoalHead part.Goals
after_open p = next.Refused

-- the part may end with its `)`
abbrev pub may_close : Part → Bool
may_close part.Close = true
may_close (part.Sections seen) = true
may_close part.Words = true
may_close (part.Names listing) = true
may_close (part.NamesMore listing) = true
may_close part.Predicates = true
may_close (part.Variables owner) = true
may_close (part.VariablesMore owner) = true
may_close part.Functions = true
may_close part.FunctionTail = true
may_close (part.Keys seen) = true
may_close part.ConditionHead = true
may_close part.Conditions = true
may_close part.Terms = true
may_close part.EffectHead = true
may_close part.Effects = true
may_close part.Facts = true
may_close part.GoalHead = true
may_close part.Goals = true
may_close part.Objects = true
may_close (part.Statements seen) = seen.init && seen.goal
may_close p = false

-- what is due after a `)`, in place of the part that was due
abbrev pub after_close : Part → Next
after_close p = only_if (may_close p) next.Nothing

-- The parts that a run reaches can be met: a further section of a problem is due only if one hasn't
-- occurred.
use Rattle.std.proofs.Common.{◌≡◌, Bool, true, false, List, [], ◌∷◌, subst, refl}
use Rattle.std.specs.Prelude.{not}
use Rattle.std.specs.List.{AllByRecursion}
use Rattle.pddl_text.specs.declared.fault.TextFault.{TextFault}
use Rattle.pddl_text.specs.Tokens.{Token, Word, Open, Close, Stray}
use Rattle.pddl_form.specs.declared.next.Next.{Next}
use Rattle.pddl_form.specs.declared.next.Next.TheVariants as next
use Rattle.pddl_form.specs.declared.parts.Met.{Met}
use Rattle.pddl_form.specs.declared.parts.Part.{Part}
use Rattle.pddl_form.specs.declared.parts.Part.TheVariants as part
use Rattle.pddl_form.specs.declared.parts.StatementsSeen.{StatementsSeen}
use Rattle.pddl_form.specs.declared.sort.Sort.{Sort}
use Rattle.pddl_form.specs.declared.sort.Sort.TheVariants as word
use Rattle.pddl_form.specs.Faults.{fault_at}
use Rattle.pddl_form.specs.Names.{is_free_sort, is_name_sort, is_term_sort}
use Rattle.pddl_form.specs.Rows.{only_if, have_all_stood}
use Rattle.pddl_form.specs.Runs.{Run, Going, after, noted, goes, run}
use Rattle.pddl_form.specs.Table.{after_word, after_open, may_close}
use Rattle.pddl_form.specs.Words.{sort}

-- a section is due only if one hasn't occurred
abbrev pub Meetable : Part → Type 0
Meetable (part.Statement seen) = have_all_stood seen ≡ false
Meetable p = Unit {0}

abbrev pub AreMeetable : List Part → Type 0
AreMeetable due = AllByRecursion Meetable due

abbrev IsGood : Next → Type 0
IsGood next.Nothing = Unit {0}
IsGood (next.One p) = Meetable p
IsGood (next.Two p q) = Meetable p × Meetable q
IsGood next.Refused = Unit {0}

good_if : (test : Bool) (n : Next) → IsGood n → IsGood (only_if test n)
good_if true n good = good
good_if false n good = tt

good_statement : (seen : StatementsSeen) (all : Bool) → have_all_stood seen ≡ all → IsGood (only_if (not all) (next.One (part.Statement seen)))
good_statement seen true is = tt
good_statement seen false is = is

good_word : (p : Part) (s : Sort) → IsGood (after_word p s)
good_word part.DomainDefine word.Define = (tt, tt)
good_word part.DomainDefine s = tt
good_word part.DomainWord word.Domain = tt
good_word part.DomainWord s = tt
good_word part.DomainName s = good_if (is_name_sort s) _ tt
good_word (part.Section seen) word.Requirements = good_if (not seen.requirements) _ (tt, tt)
good_word (part.Section seen) word.Types = good_if (not seen.types) _ (tt, tt)
good_word (part.Section seen) word.Constants = good_if (not seen.constants) _ (tt, tt)
good_word (part.Section seen) word.Predicates = good_if (not seen.predicates) _ (tt, tt)
good_word (part.Section seen) word.Functions = good_if (not seen.functions) _ (tt, tt)
good_word (part.Section seen) word.Action = (tt, tt)
good_word (part.Section seen) s = tt
good_word part.Words s = tt
good_word (part.Names listing) s = good_if (is_name_sort s) _ tt
good_word (part.NamesMore listing) word.Dash = (tt, tt)
good_word (part.NamesMore listing) s = tt
good_word (part.NameType listing) s = good_if (is_name_sort s) _ tt
good_word part.PredicateName s = good_if (is_free_sort s) _ tt
good_word (part.Variables owner) word.Variable = tt
good_word (part.Variables owner) s = tt
good_word (part.VariablesMore owner) word.Variable = tt
good_word (part.VariablesMore owner) word.Dash = (tt, tt)
good_word (part.VariablesMore owner) s = tt
good_word (part.VariableType owner) s = good_if (is_name_sort s) _ tt
good_word part.FunctionName s = good_if (is_free_sort s) _ tt
good_word part.FunctionTail word.Dash = (tt, tt)
good_word part.FunctionTail s = tt
good_word part.FunctionType word.NumberType = tt
good_word part.FunctionType s = tt
good_word part.ActionName s = good_if (is_free_sort s) _ tt
good_word (part.Keys seen) word.Parameters = good_if (not seen.parameters) _ (tt, tt)
good_word (part.Keys seen) word.Precondition = good_if (not seen.precondition) _ (tt, tt)
good_word (part.Keys seen) word.Effect = good_if (not seen.effect) _ (tt, tt)
good_word (part.Keys seen) s = tt
good_word part.ConditionHead word.And = tt
good_word part.ConditionHead s = tt
good_word part.Terms s = good_if (is_term_sort s) _ tt
good_word part.EffectHead word.And = tt
good_word part.EffectHead word.Not = tt
good_word part.EffectHead word.Increase = (tt, tt)
good_word part.EffectHead s = tt
good_word part.NegatedHead s = good_if (is_free_sort s) _ tt
good_word part.TotalWord word.TotalCost = tt
good_word part.TotalWord s = tt
good_word part.Cost word.Numeral = tt
good_word part.Cost s = tt
good_word part.CostHead word.TotalCost = tt
good_word part.CostHead s = tt
good_word part.ProblemDefine word.Define = (tt, tt)
good_word part.ProblemDefine s = tt
good_word part.ProblemWord word.Problem = tt
good_word part.ProblemWord s = tt
good_word part.ProblemName s = good_if (is_name_sort s) _ tt
good_word part.OfDomainWord word.OfDomain = tt
good_word part.OfDomainWord s = tt
good_word part.OfDomainName s = good_if (is_name_sort s) _ tt
good_word (part.Statement seen) word.Requirements = good_if (not seen.requirements) _ (tt, tt)
good_word (part.Statement seen) word.Objects = good_if (not seen.objects) _ (tt, tt)
good_word (part.Statement seen) word.Init = good_if (not seen.init) _ (tt, tt)
good_word (part.Statement seen) word.Goal = good_if (not seen.goal) _ (tt, tt)
good_word (part.Statement seen) word.Metric = good_if (not seen.metric) _ (tt, tt)
good_word (part.Statement seen) s = tt
good_word part.FactHead word.Equal = (tt, tt)
good_word part.FactHead s = tt
good_word part.ValuedHead word.TotalCost = tt
good_word part.ValuedHead s = tt
good_word part.Number word.Numeral = tt
good_word part.Number s = tt
good_word part.GoalHead word.And = tt
good_word part.GoalHead s = tt
good_word part.Objects s = good_if (is_name_sort s) _ tt
good_word part.Metric word.Minimize = (tt, tt)
good_word part.Metric s = tt
good_word p s = tt

good_open : (p : Part) → IsGood (after_open p)
good_open part.Predicates = (tt, tt)
good_open part.Functions = (tt, tt)
good_open part.FunctionTail = (tt, tt)
good_open part.Conditions = (tt, tt)
good_open part.Effects = (tt, tt)
good_open part.Negated = (tt, tt)
good_open part.Cost = (tt, tt)
good_open part.OfDomain = (tt, tt)
good_open (part.Statements seen) = good_statement seen (have_all_stood seen) refl
good_open part.Facts = (tt, tt)
good_open part.Goal = (tt, tt)
good_open part.Goals = (tt, tt)
good_open p = tt

good : (p : Part) (t : Token) → IsGood (after p t)
good p (Word text at from past) = good_word p (sort text)
good p (Open at) = good_open p
good p (Close at) = good_if (may_close p) next.Nothing tt
good p (Stray at) = tt

goes_good : (n : Next) (due : List Part) (f : TextFault) (go : List Part → Run) (d : List Part) (m : List Met) → IsGood n → AreMeetable due → ((then : List Part) → AreMeetable then → go then ≡ Going d m → AreMeetable d)
    → goes n due f go ≡ Going d m → AreMeetable d
goes_good next.Nothing due f go d m good all more e = more due all e
goes_good (next.One p) due f go d m good all more e = more (p ∷ due) (good, all) e
goes_good (next.Two p q) due f go d m good all more e = more (p ∷ q ∷ due) (good.0, (good.1, all)) e
goes_good next.Refused due f go d m good all more e = absurd cc

meetable_along : (due then : List Part) (met m : List Met) → Going due met ≡ Going then m → AreMeetable due → AreMeetable then
meetable_along due then met m e all = let same : due ≡ then = cc in subst AreMeetable same all

-- what is due after tokens that a run takes can be met
pub still_meetable : (due : List Part) (met : List Met) (tokens : List Token) (d : List Part) (m : List Met) → AreMeetable due → run due met tokens ≡ Going d m → AreMeetable d
still_meetable [] met [] d m all e = meetable_along [] d met m e all
still_meetable (p ∷ due) met [] d m all e = meetable_along (p ∷ due) d met m e all
still_meetable [] met (t ∷ tokens) d m all e = absurd cc
still_meetable (p ∷ due) met (t ∷ tokens) d m all e =
    goes_good (after p t) due (fault_at p t tokens) (λ then. run then (noted p t met) tokens) d m (good p t) all.1
    (λ then all-then. still_meetable then (noted p t met) tokens d m all-then) e

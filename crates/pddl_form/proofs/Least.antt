-- The shortest texts of the parts: each part that a run reaches can be met.
use Rattle.std.proofs.Common.{◌≡◌, ℕ, Bool, true, false, List, [], ◌∷◌, ◌++◌, refl}
use Rattle.std.specs.Prelude.{codes}
use Rattle.std.specs.List.{list_all}
use Rattle.pddl_text.specs.declared.place.Place.{Place}
use Rattle.pddl_text.specs.Tokens.{Token, Word, Open, Close}
use Rattle.pddl_form.specs.declared.parts.Met.{Met}
use Rattle.pddl_form.specs.declared.parts.Part.{Part}
use Rattle.pddl_form.specs.declared.parts.Part.TheVariants as part
use Rattle.pddl_form.specs.First.{is_written}
use Rattle.pddl_form.specs.Rows.{have_all_stood}
use Rattle.pddl_form.specs.Runs.{run}
use Rattle.pddl_form.proofs.Meetable.{Meetable}

abbrev somewhere : Place
somewhere = record { line = 1; column = 1 }

abbrev said : List ℕ → Token
said text = Word text somewhere 0 0

abbrev opened : Token
opened = Open somewhere

abbrev closed : Token
closed = Close somewhere

-- what a problem owes after its sections so far, by whether `:init` and `:goal` have occurred
abbrev owed : Bool → Bool → List Token
owed true true = closed ∷ []
owed false true = opened ∷ said (codes ":init") ∷ closed ∷ closed ∷ []
owed true false = opened ∷ said (codes ":goal") ∷ opened ∷ closed ∷ closed ∷ closed ∷ []
owed false false = opened ∷ said (codes ":init") ∷ closed ∷ opened ∷ said (codes ":goal") ∷ opened ∷ closed ∷ closed ∷ closed ∷ []

-- a section that hasn't occurred, and what is owed after it, by whether `:init`, `:goal`,
-- requirements, objects and the metric have occurred
abbrev one_more : Bool → Bool → Bool → Bool → Bool → List Token
one_more false g r o m = said (codes ":init") ∷ closed ∷ owed true g
one_more true false r o m = said (codes ":goal") ∷ opened ∷ closed ∷ closed ∷ owed true true
one_more true true false o m = said (codes ":requirements") ∷ closed ∷ owed true true
one_more true true true false m = said (codes ":objects") ∷ closed ∷ owed true true
one_more true true true true m = said (codes ":metric") ∷ said (codes "minimize") ∷ opened ∷ said (codes "total-cost") ∷ closed ∷ closed ∷ owed true true

-- a shortest text of each part
abbrev pub least : Part → List Token
least part.Domain = opened ∷ said (codes "define") ∷ opened ∷ said (codes "domain") ∷ said (codes "a") ∷ closed ∷ closed ∷ []
least part.DomainDefine = said (codes "define") ∷ opened ∷ said (codes "domain") ∷ said (codes "a") ∷ closed ∷ closed ∷ []
least part.DomainHead = opened ∷ said (codes "domain") ∷ said (codes "a") ∷ closed ∷ []
least part.DomainWord = said (codes "domain") ∷ said (codes "a") ∷ closed ∷ []
least part.DomainName = said (codes "a") ∷ closed ∷ []
least part.Close = closed ∷ []
least (part.Sections seen) = closed ∷ []
least (part.Section seen) = said (codes ":action") ∷ said (codes "a") ∷ closed ∷ closed ∷ []
least part.Words = closed ∷ []
least (part.Names listing) = closed ∷ []
least (part.NamesMore listing) = closed ∷ []
least (part.NameType listing) = said (codes "a") ∷ []
least part.Predicates = closed ∷ []
least part.PredicateName = said (codes "a") ∷ closed ∷ []
least (part.Variables owner) = closed ∷ []
least (part.VariablesMore owner) = closed ∷ []
least (part.VariableType owner) = said (codes "a") ∷ []
least part.Functions = closed ∷ []
least part.FunctionName = said (codes "a") ∷ closed ∷ []
least part.FunctionTail = closed ∷ []
least part.FunctionType = said (codes "number") ∷ []
least part.ActionName = said (codes "a") ∷ closed ∷ []
least (part.Keys seen) = closed ∷ []
least part.ParameterList = opened ∷ closed ∷ []
least part.Condition = opened ∷ closed ∷ []
least part.ConditionHead = closed ∷ []
least part.Conditions = closed ∷ []
least part.Terms = closed ∷ []
least part.Effect = opened ∷ closed ∷ []
least part.EffectHead = closed ∷ []
least part.Effects = closed ∷ []
least part.Negated = opened ∷ said (codes "a") ∷ closed ∷ closed ∷ []
least part.NegatedHead = said (codes "a") ∷ closed ∷ []
least part.Total = opened ∷ said (codes "total-cost") ∷ closed ∷ []
least part.TotalWord = said (codes "total-cost") ∷ closed ∷ []
least part.Cost = said (codes "0") ∷ closed ∷ []
least part.CostHead = said (codes "a") ∷ closed ∷ []
least part.Problem = opened ∷ said (codes "define") ∷ opened ∷ said (codes "problem") ∷ said (codes "a") ∷ closed ∷ opened ∷ said (codes ":domain") ∷ said (codes "a") ∷ closed ∷ opened ∷ said (codes ":init") ∷ closed ∷ opened ∷ said (codes ":goal") ∷ opened ∷ closed ∷ closed ∷ closed ∷ []
least part.ProblemDefine = said (codes "define") ∷ opened ∷ said (codes "problem") ∷ said (codes "a") ∷ closed ∷ opened ∷ said (codes ":domain") ∷ said (codes "a") ∷ closed ∷ opened ∷ said (codes ":init") ∷ closed ∷ opened ∷ said (codes ":goal") ∷ opened ∷ closed ∷ closed ∷ closed ∷ []
least part.ProblemHead = opened ∷ said (codes "problem") ∷ said (codes "a") ∷ closed ∷ []
least part.ProblemWord = said (codes "problem") ∷ said (codes "a") ∷ closed ∷ []
least part.ProblemName = said (codes "a") ∷ closed ∷ []
least part.OfDomain = opened ∷ said (codes ":domain") ∷ said (codes "a") ∷ closed ∷ opened ∷ said (codes ":init") ∷ closed ∷ opened ∷ said (codes ":goal") ∷ opened ∷ closed ∷ closed ∷ closed ∷ []
least part.OfDomainWord = said (codes ":domain") ∷ said (codes "a") ∷ closed ∷ []
least part.OfDomainName = said (codes "a") ∷ closed ∷ []
least part.Facts = closed ∷ []
least part.FactHead = said (codes "a") ∷ closed ∷ []
least part.Valued = opened ∷ said (codes "a") ∷ closed ∷ []
least part.ValuedHead = said (codes "a") ∷ closed ∷ []
least part.Number = said (codes "0") ∷ closed ∷ []
least part.Goal = opened ∷ closed ∷ closed ∷ []
least part.GoalHead = closed ∷ []
least part.Goals = closed ∷ []
least part.Objects = closed ∷ []
least part.Metric = said (codes "minimize") ∷ opened ∷ said (codes "total-cost") ∷ closed ∷ closed ∷ []
least (part.Statements seen) = owed seen.init seen.goal
least (part.Statement seen) = one_more seen.init seen.goal seen.requirements seen.objects seen.metric

-- after these tokens the part is met, and what was due after it is due
abbrev pub Meets : Part → List Token → List Part → List Met → Type 0
Meets p text due met = (now : List Met) × ((tokens : List Token) → run (p ∷ due) met (text ++ tokens) ≡ run due now tokens)

statements_meet : (r o i g m : Bool) (due : List Part) (met : List Met) → Meets (part.Statements (record { requirements = r; objects = o; init = i; goal = g; metric = m })) (owed i g) due met
statements_meet r o true true m due met = (_, λ tokens. refl)
statements_meet r o false true m due met = (_, λ tokens. refl)
statements_meet r o true false m due met = (_, λ tokens. refl)
statements_meet r o false false m due met = (_, λ tokens. refl)

statement_meets : (r o i g m : Bool) (due : List Part) (met : List Met) → have_all_stood (record { requirements = r; objects = o; init = i; goal = g; metric = m }) ≡ false
    → Meets (part.Statement (record { requirements = r; objects = o; init = i; goal = g; metric = m })) (one_more i g r o m) due met
statement_meets r o false true m due met left = (_, λ tokens. refl)
statement_meets r o false false m due met left = (_, λ tokens. refl)
statement_meets r o true false m due met left = (_, λ tokens. refl)
statement_meets false o true true m due met left = (_, λ tokens. refl)
statement_meets true false true true m due met left = (_, λ tokens. refl)
statement_meets true true true true false due met left = (_, λ tokens. refl)
statement_meets true true true true true due met left = absurd cc

pub least_meets : (p : Part) (due : List Part) (met : List Met) → Meetable p → Meets p (least p) due met
least_meets part.Domain due met good = (_, λ tokens. refl)
least_meets part.DomainDefine due met good = (_, λ tokens. refl)
least_meets part.DomainHead due met good = (_, λ tokens. refl)
least_meets part.DomainWord due met good = (_, λ tokens. refl)
least_meets part.DomainName due met good = (_, λ tokens. refl)
least_meets part.Close due met good = (_, λ tokens. refl)
least_meets (part.Sections seen) due met good = (_, λ tokens. refl)
least_meets (part.Section seen) due met good = (_, λ tokens. refl)
least_meets part.Words due met good = (_, λ tokens. refl)
least_meets (part.Names listing) due met good = (_, λ tokens. refl)
least_meets (part.NamesMore listing) due met good = (_, λ tokens. refl)
least_meets (part.NameType listing) due met good = (_, λ tokens. refl)
least_meets part.Predicates due met good = (_, λ tokens. refl)
least_meets part.PredicateName due met good = (_, λ tokens. refl)
least_meets (part.Variables owner) due met good = (_, λ tokens. refl)
least_meets (part.VariablesMore owner) due met good = (_, λ tokens. refl)
least_meets (part.VariableType owner) due met good = (_, λ tokens. refl)
least_meets part.Functions due met good = (_, λ tokens. refl)
least_meets part.FunctionName due met good = (_, λ tokens. refl)
least_meets part.FunctionTail due met good = (_, λ tokens. refl)
least_meets part.FunctionType due met good = (_, λ tokens. refl)
least_meets part.ActionName due met good = (_, λ tokens. refl)
least_meets (part.Keys seen) due met good = (_, λ tokens. refl)
least_meets part.ParameterList due met good = (_, λ tokens. refl)
least_meets part.Condition due met good = (_, λ tokens. refl)
least_meets part.ConditionHead due met good = (_, λ tokens. refl)
least_meets part.Conditions due met good = (_, λ tokens. refl)
least_meets part.Terms due met good = (_, λ tokens. refl)
least_meets part.Effect due met good = (_, λ tokens. refl)
least_meets part.EffectHead due met good = (_, λ tokens. refl)
least_meets part.Effects due met good = (_, λ tokens. refl)
least_meets part.Negated due met good = (_, λ tokens. refl)
least_meets part.NegatedHead due met good = (_, λ tokens. refl)
least_meets part.Total due met good = (_, λ tokens. refl)
least_meets part.TotalWord due met good = (_, λ tokens. refl)
least_meets part.Cost due met good = (_, λ tokens. refl)
least_meets part.CostHead due met good = (_, λ tokens. refl)
least_meets part.Problem due met good = (_, λ tokens. refl)
least_meets part.ProblemDefine due met good = (_, λ tokens. refl)
least_meets part.ProblemHead due met good = (_, λ tokens. refl)
least_meets part.ProblemWord due met good = (_, λ tokens. refl)
least_meets part.ProblemName due met good = (_, λ tokens. refl)
least_meets part.OfDomain due met good = (_, λ tokens. refl)
least_meets part.OfDomainWord due met good = (_, λ tokens. refl)
least_meets part.OfDomainName due met good = (_, λ tokens. refl)
least_meets part.Facts due met good = (_, λ tokens. refl)
least_meets part.FactHead due met good = (_, λ tokens. refl)
least_meets part.Valued due met good = (_, λ tokens. refl)
least_meets part.ValuedHead due met good = (_, λ tokens. refl)
least_meets part.Number due met good = (_, λ tokens. refl)
least_meets part.Goal due met good = (_, λ tokens. refl)
least_meets part.GoalHead due met good = (_, λ tokens. refl)
least_meets part.Goals due met good = (_, λ tokens. refl)
least_meets part.Objects due met good = (_, λ tokens. refl)
least_meets part.Metric due met good = (_, λ tokens. refl)
least_meets (part.Statements seen) due met good = statements_meet seen.requirements seen.objects seen.init seen.goal seen.metric due met
least_meets (part.Statement seen) due met good = statement_meets seen.requirements seen.objects seen.init seen.goal seen.metric due met good

-- ---- the tokens of the shortest texts can occur in a text

owed_written : (i g : Bool) → list_all is_written (owed i g) ≡ true
owed_written true true = refl
owed_written false true = refl
owed_written true false = refl
owed_written false false = refl

more_written : (i g r o m : Bool) → list_all is_written (one_more i g r o m) ≡ true
more_written false true r o m = refl
more_written false false r o m = refl
more_written true false r o m = refl
more_written true true false o m = refl
more_written true true true false m = refl
more_written true true true true m = refl

pub least_written : (p : Part) → list_all is_written (least p) ≡ true
least_written (part.Statements seen) = owed_written seen.init seen.goal
least_written (part.Statement seen) = more_written seen.init seen.goal seen.requirements seen.objects seen.metric
least_written p = refl

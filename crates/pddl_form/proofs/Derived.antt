-- What is in the grammar is derived by the table.
use Rattle.std.proofs.Common.{◌≡◌, ◌≢◌, ℕ, Bool, true, false, List, [], ◌∷◌, ◌++◌, refl, ap, sym, subst, ◌∙◌, append_assoc}
use Rattle.std.specs.Prelude.{◌&&◌, not, codes}
use Rattle.pddl_form.specs.declared.next.Next.{Next}
use Rattle.pddl_form.specs.declared.next.Next.TheVariants as next
use Rattle.pddl_form.specs.declared.parts.KeysSeen.{KeysSeen}
use Rattle.pddl_form.specs.declared.parts.Listing.{Listing}
use Rattle.pddl_form.specs.declared.parts.Owner.{Owner}
use Rattle.pddl_form.specs.declared.parts.Owner.TheVariants as whose
use Rattle.pddl_form.specs.declared.parts.Listing.TheVariants as listing
use Rattle.pddl_form.specs.declared.parts.Part.{Part}
use Rattle.pddl_form.specs.declared.parts.Part.TheVariants as part
use Rattle.pddl_form.specs.declared.parts.SectionsSeen.{SectionsSeen}
use Rattle.pddl_form.specs.declared.parts.StatementsSeen.{StatementsSeen}
use Rattle.pddl_form.specs.declared.sort.Sort.{Sort}
use Rattle.pddl_form.specs.declared.sort.Sort.TheVariants as word
use Rattle.pddl_form.specs.Actions.{condition_head, effect_head, cost, cost_head}
use Rattle.pddl_form.specs.Grammar.{Sign, Says, Opens, Closes, IsName, IsVariable, IsTerm, IsNumber, IsFree, IsAny, Row, Typed, IsAtom, IsCondition, Count, One, Many, IsCost, total, IsEffect, HasKeys, HasPredicates, HasFunctions, HasSections, IsDomain, HasFacts, HasStatements, IsProblem}
use Rattle.pddl_form.specs.Names.{is_free_sort, is_name_sort, is_term_sort}
use Rattle.pddl_form.specs.Problems.{fact_head, valued_head, goal_head}
use Rattle.pddl_form.specs.Rows.{only_if, no_keys, have_all_stood}
use Rattle.pddl_form.specs.Typed as typed
use Rattle.pddl_form.specs.Words.{sort}
use Rattle.pddl_form.proofs.Derivations.{Meets, stop, one, two}
use Rattle.pddl_form.proofs.WordLemmas.{own_spelled, name_sort, term_sort, variable_sort, numeral_sort, free_sort}

-- the row is taken if its test passes
passes : (n : Next) (b : Bool) → b ≡ true → only_if b n ≡ n
passes n b e = ap (λ (x : Bool). only_if x n) e

open_passes : (n : Next) (b : Bool) → b ≡ false → only_if (not b) n ≡ n
open_passes n b e = ap (λ (x : Bool). only_if (not x) n) e

is_a_name : (text : List ℕ) → IsName text → is_name_sort (sort text) ≡ true
is_a_name text name = name_sort text ∙ name

-- ---- lists of words

any_words : {t : List Sign} → Row IsAny t → Meets part.Words t
any_words Row.end = stop refl
any_words (Row.word is rest) = one refl (any_words rest)

term_words : {t : List Sign} → Row IsTerm t → Meets part.Terms t
term_words Row.end = stop refl
term_words (Row.word {text} is rest) = one (passes (next.One part.Terms) (is_term_sort (sort text)) (term_sort text ∙ is)) (term_words rest)

object_words : {t : List Sign} → Row IsName t → Meets part.Objects t
object_words Row.end = stop refl
object_words (Row.word {text} is rest) = one (passes (next.One part.Objects) (is_name_sort (sort text)) (is_a_name text is)) (object_words rest)

-- ---- typed lists

names_part : Listing → Bool → Part
names_part of false = part.Names of
names_part of true = part.NamesMore of

variables_part : Owner → Bool → Part
variables_part of false = part.Variables of
variables_part of true = part.VariablesMore of

more_name : (of : Listing) (s : Sort) → is_name_sort s ≡ true → typed.names_more of s ≡ next.One (part.NamesMore of)
more_name of word.Dash name = absurd cc
more_name of s name = passes (next.One (part.NamesMore of)) (is_name_sort s) name

one_name : (of : Listing) (group : Bool) (text : List ℕ) (rest : List Sign) → IsName text → Meets (part.NamesMore of) rest → Meets (names_part of group) (Says text ∷ rest)
unfolding names_part
one_name of false text rest name more = one (passes (next.One (part.NamesMore of)) (is_name_sort (sort text)) (is_a_name text name)) more
one_name of true text rest name more = one (more_name of (sort text) (is_a_name text name)) more

no_names : (of : Listing) (group : Bool) → Meets (names_part of group) (Closes ∷ [])
unfolding names_part
no_names of false = stop refl
no_names of true = stop refl

typed_names : (of : Listing) {group : Bool} {t : List Sign} → Typed IsName group t → Meets (names_part of group) t
unfolding names_part
typed_names of (Typed.end {group}) = no_names of group
typed_names of (Typed.thing {group} {text} {rest} is more) = one_name of group text rest is (typed_names of more)
typed_names of (Typed.type {text} {rest} is more) = two refl (stop (passes next.Nothing (is_name_sort (sort text)) (is_a_name text is))) (typed_names of more)

one_variable : (of : Owner) (group : Bool) (text : List ℕ) (rest : List Sign) → IsVariable text → Meets (part.VariablesMore of) rest → Meets (variables_part of group) (Says text ∷ rest)
unfolding variables_part
one_variable of false text rest is more = one (ap (typed.variables of) (variable_sort text is)) more
one_variable of true text rest is more = one (ap (typed.variables_more of) (variable_sort text is)) more

no_variables : (of : Owner) (group : Bool) → Meets (variables_part of group) (Closes ∷ [])
unfolding variables_part
no_variables of false = stop refl
no_variables of true = stop refl

typed_variables : (of : Owner) {group : Bool} {t : List Sign} → Typed IsVariable group t → Meets (variables_part of group) t
unfolding variables_part
typed_variables of (Typed.end {group}) = no_variables of group
typed_variables of (Typed.thing {group} {text} {rest} is more) = one_variable of group text rest is (typed_variables of more)
typed_variables of (Typed.type {text} {rest} is more) = two refl (stop (passes next.Nothing (is_name_sort (sort text)) (is_a_name text is))) (typed_variables of more)

listed : (of : Listing) {t : List Sign} → Typed IsName false t → Meets (part.Names of) t
unfolding names_part
listed of list = typed_names of list

owned : (of : Owner) {t : List Sign} → Typed IsVariable false t → Meets (part.Variables of) t
unfolding variables_part
owned of list = typed_variables of list

-- ---- conditions

free_condition : (s : Sort) → is_free_sort s ≡ true → condition_head s ≡ next.One part.Terms
free_condition word.And free = absurd cc
free_condition s free = passes (next.One part.Terms) (is_free_sort s) free

free_goal : (s : Sort) → is_free_sort s ≡ true → goal_head s ≡ next.One part.Objects
free_goal word.And free = absurd cc
free_goal s free = passes (next.One part.Objects) (is_free_sort s) free

-- a list that a head takes after its `(`
Inside : Part → List Sign → Type 0
Inside p t = (inner : List Sign) × (t ≡ Opens ∷ inner) × Meets p inner

condition_atom : {t : List Sign} → IsAtom IsTerm t → Inside part.ConditionHead t
unfolding Inside
condition_atom (IsAtom.atom {name} {rest} free row) = (Says name ∷ rest, refl, one (free_condition (sort name) (free_sort name free)) (term_words row))

goal_atom : {t : List Sign} → IsAtom IsName t → Inside part.GoalHead t
unfolding Inside
goal_atom (IsAtom.atom {name} {rest} free row) = (Says name ∷ rest, refl, one (free_goal (sort name) (free_sort name free)) (object_words row))

conditions_of : Count → List Sign → Type 0
conditions_of One t = Inside part.ConditionHead t
conditions_of Many t = Meets part.Conditions t

more_conditions : (first rest : List Sign) → Inside part.ConditionHead first → Meets part.Conditions rest → Meets part.Conditions (first ++ rest)
unfolding Inside
more_conditions first rest (inner, e, m) more = subst (λ (x : List Sign). Meets part.Conditions (x ++ rest)) (sym e) (two refl m more)

conditions : {n : Count} {t : List Sign} → IsCondition IsTerm n t → conditions_of n t
unfolding conditions_of Inside
conditions IsCondition.empty = (Closes ∷ [], refl, stop refl)
conditions (IsCondition.all {rest} many) = (Says (codes "and") ∷ rest, refl, one refl (conditions many))
conditions (IsCondition.holds is) = condition_atom is
conditions IsCondition.end = stop refl
conditions (IsCondition.more {first} {rest} single many) = more_conditions first rest (conditions single) (conditions many)

condition : {t : List Sign} → IsCondition IsTerm One t → Meets part.Condition t
unfolding conditions_of Inside
condition is = let c = conditions is in subst (Meets part.Condition) (sym c.1) (one refl c.2)

goals_of : Count → List Sign → Type 0
goals_of One t = Inside part.GoalHead t
goals_of Many t = Meets part.Goals t

more_goals : (first rest : List Sign) → Inside part.GoalHead first → Meets part.Goals rest → Meets part.Goals (first ++ rest)
unfolding Inside
more_goals first rest (inner, e, m) more = subst (λ (x : List Sign). Meets part.Goals (x ++ rest)) (sym e) (two refl m more)

goals : {n : Count} {t : List Sign} → IsCondition IsName n t → goals_of n t
unfolding goals_of Inside
goals IsCondition.empty = (Closes ∷ [], refl, stop refl)
goals (IsCondition.all {rest} many) = (Says (codes "and") ∷ rest, refl, one refl (goals many))
goals (IsCondition.holds is) = goal_atom is
goals IsCondition.end = stop refl
goals (IsCondition.more {first} {rest} single many) = more_goals first rest (goals single) (goals many)

goal : {t : List Sign} → IsCondition IsName One t → Meets part.Goal (t ++ Closes ∷ [])
unfolding goals_of Inside
goal is = let c = goals is in subst (λ (x : List Sign). Meets part.Goal (x ++ Closes ∷ [])) (sym c.1) (two refl c.2 (stop refl))

-- ---- costs and effects

no_total : (name : List ℕ) → name ≢ codes "total-cost" → sort name ≢ word.TotalCost
no_total name other e = other (own_spelled name word.TotalCost e refl)

cost_name : (s : Sort) → is_name_sort s ≡ true → s ≢ word.TotalCost → cost_head s ≡ next.One part.Terms
cost_name word.TotalCost name other = absurd (other refl)
cost_name s name other = passes (next.One part.Terms) (is_name_sort s) name

value_name : (s : Sort) → is_name_sort s ≡ true → s ≢ word.TotalCost → valued_head s ≡ next.One part.Objects
value_name word.TotalCost name other = absurd (other refl)
value_name s name other = passes (next.One part.Objects) (is_name_sort s) name

costs : {t : List Sign} → IsCost t → Meets part.Cost (t ++ Closes ∷ [])
costs (IsCost.plain {text} number) = one (ap cost (numeral_sort text number)) (stop refl)
costs (IsCost.term {name} {rest} free row) = two refl (one (cost_name (sort name) (is_a_name name free.0) (no_total name free.1)) (term_words row)) (stop refl)

free_effect : (s : Sort) → is_free_sort s ≡ true → effect_head s ≡ next.One part.Terms
free_effect word.And free = absurd cc
free_effect word.Not free = absurd cc
free_effect word.Increase free = absurd cc
free_effect s free = passes (next.One part.Terms) (is_free_sort s) free

effect_atom : {t : List Sign} → IsAtom IsTerm t → Inside part.EffectHead t
unfolding Inside
effect_atom (IsAtom.atom {name} {rest} free row) = (Says name ∷ rest, refl, one (free_effect (sort name) (free_sort name free)) (term_words row))

negated_atom : {t : List Sign} → IsAtom IsTerm t → Inside part.NegatedHead t
unfolding Inside
negated_atom (IsAtom.atom {name} {rest} free row) = (Says name ∷ rest, refl, one (passes (next.One part.Terms) (is_free_sort (sort name)) (free_sort name free)) (term_words row))

negated : {t : List Sign} → IsAtom IsTerm t → Meets part.Negated (t ++ Closes ∷ [])
unfolding Inside
negated is = let c = negated_atom is in subst (λ (x : List Sign). Meets part.Negated (x ++ Closes ∷ [])) (sym c.1) (two refl c.2 (stop refl))

effects_of : Count → List Sign → Type 0
effects_of One t = Inside part.EffectHead t
effects_of Many t = Meets part.Effects t

more_effects : (first rest : List Sign) → Inside part.EffectHead first → Meets part.Effects rest → Meets part.Effects (first ++ rest)
unfolding Inside
more_effects first rest (inner, e, m) more = subst (λ (x : List Sign). Meets part.Effects (x ++ rest)) (sym e) (two refl m more)

the_total : Meets part.Total (total [])
the_total = one refl (one refl (stop refl))

effects : {n : Count} {t : List Sign} → IsEffect n t → effects_of n t
unfolding effects_of Inside
effects IsEffect.empty = (Closes ∷ [], refl, stop refl)
effects (IsEffect.all {rest} many) = (Says (codes "and") ∷ rest, refl, one refl (effects many))
effects (IsEffect.adds is) = effect_atom is
effects (IsEffect.deletes {inner} is) = (Says (codes "not") ∷ (inner ++ Closes ∷ []), refl, one refl (negated is))
effects (IsEffect.increases {cost = price} is) = (Says (codes "increase") ∷ total (price ++ Closes ∷ []), refl, two refl the_total (costs is))
effects IsEffect.end = stop refl
effects (IsEffect.more {first} {rest} single many) = more_effects first rest (effects single) (effects many)

effect : {t : List Sign} → IsEffect One t → Meets part.Effect t
unfolding effects_of Inside
effect is = let c = effects is in subst (Meets part.Effect) (sym c.1) (one refl c.2)

keys : {seen : KeysSeen} {t : List Sign} → HasKeys seen t → Meets (part.Keys seen) t
keys HasKeys.end = stop refl
keys (HasKeys.parameters {seen} left list more) = two (open_passes (next.Two part.ParameterList (part.Keys (record seen { parameters = true }))) seen.parameters left) (one refl (owned whose.Action list)) (keys more)
keys (HasKeys.precondition {seen} left is more) = two (open_passes (next.Two part.Condition (part.Keys (record seen { precondition = true }))) seen.precondition left) (condition is) (keys more)
keys (HasKeys.effect {seen} left is more) = two (open_passes (next.Two part.Effect (part.Keys (record seen { effect = true }))) seen.effect left) (effect is) (keys more)

-- ---- domains

predicate_entry : {name : List ℕ} {t : List Sign} → IsFree name → Typed IsVariable false t → Meets part.PredicateName (Says name ∷ t)
predicate_entry {name} {t} free list = one (passes (next.One (part.Variables whose.Predicate)) (is_free_sort (sort name)) (free_sort name free)) (owned whose.Predicate list)

function_entry : {name : List ℕ} {t : List Sign} → IsFree name → Typed IsVariable false t → Meets part.FunctionName (Says name ∷ t)
function_entry {name} {t} free list = one (passes (next.One (part.Variables whose.Function)) (is_free_sort (sort name)) (free_sort name free)) (owned whose.Function list)

predicates : {t : List Sign} → HasPredicates t → Meets part.Predicates t
predicates HasPredicates.end = stop refl
predicates (HasPredicates.predicate free list more) = two refl (predicate_entry free list) (predicates more)

-- functions, and functions after a function
record Functions (t : List Sign) : Type 0 where
  first : Meets part.Functions t
  later : Meets part.FunctionTail t

functions : {t : List Sign} → HasFunctions t → Functions t
functions HasFunctions.end = record { first = stop refl; later = stop refl }
functions (HasFunctions.function free list more) = record { first = two refl (function_entry free list) (functions more).later; later = two refl (function_entry free list) (functions more).later }
functions (HasFunctions.number_function free list more) =
    let tail = two {p = part.FunctionTail} {s = Says (codes "-")} {first = Says (codes "number") ∷ []} refl (stop refl) (functions more).first in
    record { first = two refl (function_entry free list) tail; later = two refl (function_entry free list) tail }

sections : {seen : SectionsSeen} {t : List Sign} → HasSections seen t → Meets (part.Sections seen) t
sections HasSections.end = stop refl
sections (HasSections.requirements {seen} left row more) = one refl (two (open_passes (next.Two part.Words (part.Sections (record seen { requirements = true }))) seen.requirements left) (any_words row) (sections more))
sections (HasSections.types {seen} left list more) = one refl (two (open_passes (next.Two (part.Names listing.Types) (part.Sections (record seen { types = true }))) seen.types left) (listed listing.Types list) (sections more))
sections (HasSections.constants {seen} left list more) = one refl (two (open_passes (next.Two (part.Names listing.Constants) (part.Sections (record seen { constants = true }))) seen.constants left) (listed listing.Constants list) (sections more))
sections (HasSections.predicates {seen} left is more) = one refl (two (open_passes (next.Two part.Predicates (part.Sections (record seen { predicates = true }))) seen.predicates left) (predicates is) (sections more))
sections (HasSections.functions {seen} left is more) = one refl (two (open_passes (next.Two part.Functions (part.Sections (record seen { functions = true }))) seen.functions left) (functions is).first (sections more))
sections (HasSections.action {seen} {name} free is more) = one refl (two refl (one (passes (next.One (part.Keys no_keys)) (is_free_sort (sort name)) (free_sort name free)) (keys is)) (sections more))

named_head : (name : List ℕ) → IsName name → only_if (is_name_sort (sort name)) (next.One part.Close) ≡ next.One part.Close
named_head name is = passes (next.One part.Close) (is_name_sort (sort name)) (is_a_name name is)

pub domain_meets : {t : List Sign} → IsDomain t → Meets part.Domain t
domain_meets (IsDomain.domain {name} {rest} is more) = one refl (two refl (one refl (one refl (one (named_head name is) (stop refl)))) (sections more))

-- ---- problems

free_fact : (s : Sort) → is_free_sort s ≡ true → fact_head s ≡ next.One part.Objects
free_fact word.Equal free = absurd cc
free_fact s free = passes (next.One part.Objects) (is_free_sort s) free

fact_atom : {t : List Sign} → IsAtom IsName t → Inside part.FactHead t
unfolding Inside
fact_atom (IsAtom.atom {name} {rest} free row) = (Says name ∷ rest, refl, one (free_fact (sort name) (free_sort name free)) (object_words row))

more_facts : (first rest : List Sign) → Inside part.FactHead first → Meets part.Facts rest → Meets part.Facts (first ++ rest)
unfolding Inside
more_facts first rest (inner, e, m) more = subst (λ (x : List Sign). Meets part.Facts (x ++ rest)) (sym e) (two refl m more)

number_meets : (text : List ℕ) → IsNumber text → Meets part.Number (Says text ∷ Closes ∷ [])
number_meets text number = one (ap cost (numeral_sort text number)) (stop refl)

facts : {t : List Sign} → HasFacts t → Meets part.Facts t
facts HasFacts.end = stop refl
facts (HasFacts.fact {first} {rest} is more) = more_facts first rest (fact_atom is) (facts more)
facts (HasFacts.value {name} {first} {rest} text free row number more) =
    let head : Meets part.ValuedHead (Says name ∷ first) = one (value_name (sort name) (is_a_name name free.0) (no_total name free.1)) (object_words row) in
    let valued : Meets part.Valued (Opens ∷ Says name ∷ first) = one refl head in
    let fact : Meets part.FactHead (Says (codes "=") ∷ ((Opens ∷ Says name ∷ first) ++ Says text ∷ Closes ∷ [])) = two refl valued (number_meets text number) in
    let all : Meets part.Facts (Opens ∷ ((Says (codes "=") ∷ ((Opens ∷ Says name ∷ first) ++ Says text ∷ Closes ∷ [])) ++ rest)) = two refl fact (facts more) in
    subst (λ (x : List Sign). Meets part.Facts (Opens ∷ Says (codes "=") ∷ Opens ∷ Says name ∷ x)) (append_assoc first (Says text ∷ Closes ∷ []) rest) all
facts (HasFacts.total_value {text} number more) =
    two {p = part.Facts} {s = Opens} {first = Says (codes "=") ∷ total (Says text ∷ Closes ∷ [])} refl
    (two {p = part.FactHead} {s = Says (codes "=")} {first = total []} refl (one refl (one refl (stop refl))) (number_meets text number)) (facts more)

left_open : (seen : StatementsSeen) → have_all_stood seen ≡ false → only_if (not (have_all_stood seen)) (next.One (part.Statement seen)) ≡ next.One (part.Statement seen)
left_open seen left = open_passes (next.One (part.Statement seen)) (have_all_stood seen) left

-- a section that hasn't occurred
and_false : (a b : Bool) → b ≡ false → (a && b) ≡ false
and_false true b e = e
and_false false b e = refl

false_and : (a b : Bool) → a ≡ false → (a && b) ≡ false
false_and a b e = ap (λ (x : Bool). x && b) e

module _ (seen : StatementsSeen) where
  lacks_init : seen.init ≡ false → have_all_stood seen ≡ false
  lacks_init left = false_and seen.init (seen.goal && (seen.requirements && (seen.objects && seen.metric))) left

  lacks_goal : seen.goal ≡ false → have_all_stood seen ≡ false
  lacks_goal left = and_false seen.init _ (false_and seen.goal (seen.requirements && (seen.objects && seen.metric)) left)

  lacks_requirements : seen.requirements ≡ false → have_all_stood seen ≡ false
  lacks_requirements left = and_false seen.init _ (and_false seen.goal _ (false_and seen.requirements (seen.objects && seen.metric) left))

  lacks_objects : seen.objects ≡ false → have_all_stood seen ≡ false
  lacks_objects left = and_false seen.init _ (and_false seen.goal _ (and_false seen.requirements _ (false_and seen.objects seen.metric left)))

  lacks_metric : seen.metric ≡ false → have_all_stood seen ≡ false
  lacks_metric left = and_false seen.init _ (and_false seen.goal _ (and_false seen.requirements _ (and_false seen.objects seen.metric left)))

statements : {seen : StatementsSeen} {t : List Sign} → HasStatements seen t → Meets (part.Statements seen) t
statements (HasStatements.end {seen} init goal) = stop (passes next.Nothing (seen.init && seen.goal) (ap (λ (b : Bool). b && seen.goal) init ∙ goal))
statements (HasStatements.requirements {seen} left row more) = one (left_open seen (lacks_requirements seen left)) (two (open_passes (next.Two part.Words (part.Statements (record seen { requirements = true }))) seen.requirements left) (any_words row) (statements more))
statements (HasStatements.objects {seen} left list more) = one (left_open seen (lacks_objects seen left)) (two (open_passes (next.Two (part.Names listing.Objects) (part.Statements (record seen { objects = true }))) seen.objects left) (listed listing.Objects list) (statements more))
statements (HasStatements.init {seen} left is more) = one (left_open seen (lacks_init seen left)) (two (open_passes (next.Two part.Facts (part.Statements (record seen { init = true }))) seen.init left) (facts is) (statements more))
statements (HasStatements.goal {seen} {first} {rest} left is more) =
    one (left_open seen (lacks_goal seen left))
    (subst (λ (x : List Sign). Meets (part.Statement seen) (Says (codes ":goal") ∷ x)) (append_assoc first (Closes ∷ []) rest)
    (two {s = Says (codes ":goal")} (open_passes (next.Two part.Goal (part.Statements (record seen { goal = true }))) seen.goal left) (goal is) (statements more)))
statements (HasStatements.metric {seen} left more) =
    let metric : Meets part.Metric (Says (codes "minimize") ∷ total (Closes ∷ [])) = two {p = part.Metric} {s = Says (codes "minimize")} {first = total []} refl the_total (stop refl) in
    one (left_open seen (lacks_metric seen left)) (two (open_passes (next.Two part.Metric (part.Statements (record seen { metric = true }))) seen.metric left) metric (statements more))

pub problem_meets : {t : List Sign} → IsProblem t → Meets part.Problem t
problem_meets (IsProblem.problem {name} {of} {rest} is of_is more) =
    one refl
    (two refl (one refl (one refl (one (named_head name is) (stop refl))))
    (two {p = part.OfDomain} {s = Opens} {first = Says (codes ":domain") ∷ Says of ∷ Closes ∷ []} refl (one refl (one (named_head of of_is) (stop refl))) (statements more)))

-- The form of a text says which roles its words have: `total-cost` isn't the function of a cost or a value, and the words
-- of a problem have roles of problems.
use Rattle.std.proofs.Common.{◌≡◌, ◌≢◌, ℕ, ◌&&◌, ◌++◌, Bool, true, false, List, [], ◌∷◌, refl, sym, ap, subst, ◌∙◌}
use Rattle.std.specs.Prelude.{IsTrue, codes}
use Rattle.std.specs.List.{AllByRecursion, list_all}
use Rattle.std.specs.Str.{bytes_eq}
use Rattle.std.proofs.lemmas.Bool.{true≢false, and_parts, and_from}
use Rattle.std.proofs.lemmas.List.Elements.{All-from_recursion}
use Rattle.pddl_text.specs.declared.fault.TextFault.{TextFault}
use Rattle.pddl_text.specs.Tokens.{Token, Word as Written, Open, Close, Stray}
use Rattle.pddl_form.specs.declared.next.Next.{Next}
use Rattle.pddl_form.specs.declared.next.Next.TheVariants as next
use Rattle.pddl_form.specs.declared.parts.Listing.{Listing}
use Rattle.pddl_form.specs.declared.parts.Listing.TheVariants as listing
use Rattle.pddl_form.specs.declared.parts.Met.{Met}
use Rattle.pddl_form.specs.declared.parts.Part.{Part}
use Rattle.pddl_form.specs.declared.parts.Part.TheVariants as part
use Rattle.pddl_form.specs.declared.sort.Sort.{Sort}
use Rattle.pddl_form.specs.declared.sort.Sort.TheVariants as word
use Rattle.pddl_form.specs.Faults.{fault_at}
use Rattle.pddl_form.specs.First.{HasForm}
use Rattle.pddl_form.specs.Mets.{IsTaken}
use Rattle.pddl_form.specs.Names.{is_free_sort, is_name_sort}
use Rattle.pddl_form.specs.Rows.{only_if, have_all_stood, no_statements}
use Rattle.pddl_form.specs.Runs.{Run, Going, after, noted, goes, run}
use Rattle.pddl_form.specs.Table.{after_word, after_open, after_close, may_close}
use Rattle.pddl_form.specs.Words.{sort}
use Rattle.pddl_form.proofs.MetLemmas.{form_taken}
use Rattle.pddl_names.specs.declared.role.Role.{Role}
use Rattle.pddl_names.specs.declared.role.Role.TheVariants as role
use Rattle.pddl_names.specs.declared.role.Word.{Word}
use Rattle.pddl_names.specs.Roles.{listed, typed, role_at, word_of, words_of}
use Rattle.pddl_models.specs.Saying.{is_calling, is_of_problem, AreNoTotals, AreOfProblem}
use Rattle.pddl_models.proofs.PlaceInLemmas.{name_same}
use Rattle.pddl_form.proofs.MetLemmas.{same_met}

-- ---- functions of costs and values

calls_listed : (l : Listing) → is_calling (listed l) ≡ false
calls_listed listing.Types = refl
calls_listed listing.Constants = refl
calls_listed listing.Objects = refl

calls_typed : (l : Listing) → is_calling (typed l) ≡ false
calls_typed listing.Types = refl
calls_typed listing.Constants = refl
calls_typed listing.Objects = refl

-- no part takes `total-cost` as the function of a cost or a value
no_call : (p : Part) → is_calling (role_at p word.TotalCost) ≡ true → after_word p word.TotalCost ≢ next.Refused → ⊥
no_call part.CostHead is taken = taken refl
no_call (part.Names l) is taken = true≢false (sym is ∙ calls_listed l)
no_call (part.NamesMore l) is taken = true≢false (sym is ∙ calls_listed l)
no_call (part.NameType l) is taken = true≢false (sym is ∙ calls_typed l)
no_call _ is taken = true≢false (sym is)

abbrev IsNoTotal : Word → Type 0
IsNoTotal w = IsTrue (is_calling w.role) → bytes_eq w.text (codes "total-cost") ≡ false

total_by : (m : Met) → IsTaken m → is_calling (role_at m.part (sort m.text)) ≡ true → (b : Bool) → bytes_eq m.text (codes "total-cost") ≡ b → b ≡ false
total_by m taken is true same =
    let total : sort m.text ≡ word.TotalCost = ap sort (name_same m.text (codes "total-cost") same) in
    absurd (no_call m.part (ap (λ s. is_calling (role_at m.part s)) (sym total) ∙ is) (λ refused. taken (ap (after_word m.part) total ∙ refused)))
total_by m taken is false same = refl

no_totals : (met : List Met) → AllByRecursion IsTaken met → AllByRecursion IsNoTotal (words_of met)
no_totals [] taken = tt
no_totals (m ∷ met) taken = ((λ is. total_by m taken.0 is (bytes_eq m.text (codes "total-cost")) refl), no_totals met taken.1)

pub are_no_totals : (start : Part) (tokens : List Token) (met : List Met) → HasForm start tokens met → AreNoTotals (words_of met)
are_no_totals start tokens met form = All-from_recursion IsNoTotal (words_of met) (no_totals met (form_taken start tokens met form))

-- ---- the parts of problems

abbrev of_objects : Listing → Bool
of_objects listing.Objects = true
of_objects l = false

-- a part that may be due in a problem
abbrev is_problem_part : Part → Bool
is_problem_part part.Problem = true
is_problem_part part.ProblemDefine = true
is_problem_part part.ProblemHead = true
is_problem_part part.ProblemWord = true
is_problem_part part.ProblemName = true
is_problem_part part.OfDomain = true
is_problem_part part.OfDomainWord = true
is_problem_part part.OfDomainName = true
is_problem_part (part.Statements seen) = true
is_problem_part (part.Statement seen) = true
is_problem_part part.Facts = true
is_problem_part part.FactHead = true
is_problem_part part.Valued = true
is_problem_part part.ValuedHead = true
is_problem_part part.Number = true
is_problem_part part.Goal = true
is_problem_part part.GoalHead = true
is_problem_part part.Goals = true
is_problem_part part.Objects = true
is_problem_part part.Metric = true
is_problem_part part.Words = true
is_problem_part part.Close = true
is_problem_part part.Total = true
is_problem_part part.TotalWord = true
is_problem_part (part.Names l) = of_objects l
is_problem_part (part.NamesMore l) = of_objects l
is_problem_part (part.NameType l) = of_objects l
is_problem_part p = false

-- only such parts can follow
abbrev all_due : List Part → Bool
all_due due = list_all is_problem_part due

abbrev next_due : Next → Bool
next_due next.Nothing = true
next_due (next.One p) = is_problem_part p
next_due (next.Two p q) = is_problem_part p && is_problem_part q
next_due next.Refused = true

if_due : (b : Bool) (n : Next) → next_due n ≡ true → next_due (only_if b n) ≡ true
if_due true n due = due
if_due false n due = refl

listed_role : (l : Listing) → of_objects l ≡ true → is_of_problem (listed l) ≡ true
listed_role listing.Objects is = refl
listed_role listing.Types is = absurd (true≢false (sym is))
listed_role listing.Constants is = absurd (true≢false (sym is))

typed_role : (l : Listing) → of_objects l ≡ true → is_of_problem (typed l) ≡ true
typed_role listing.Objects is = refl
typed_role listing.Types is = absurd (true≢false (sym is))
typed_role listing.Constants is = absurd (true≢false (sym is))

-- a word at such a part has a role of problems
part_role : (p : Part) (s : Sort) → is_problem_part p ≡ true → is_of_problem (role_at p s) ≡ true
part_role part.FactHead word.Equal is = refl
part_role part.FactHead s is = refl
part_role part.ValuedHead word.TotalCost is = refl
part_role part.ValuedHead s is = refl
part_role part.GoalHead word.And is = refl
part_role part.GoalHead s is = refl
part_role (part.Names l) s is = listed_role l is
part_role (part.NamesMore l) word.Dash is = refl
part_role (part.NamesMore l) s is = listed_role l is
part_role (part.NameType l) s is = typed_role l is
part_role part.Problem s is = refl
part_role part.ProblemDefine s is = refl
part_role part.ProblemHead s is = refl
part_role part.ProblemWord s is = refl
part_role part.ProblemName s is = refl
part_role part.OfDomain s is = refl
part_role part.OfDomainWord s is = refl
part_role part.OfDomainName s is = refl
part_role (part.Statements seen) s is = refl
part_role (part.Statement seen) s is = refl
part_role part.Facts s is = refl
part_role part.Valued s is = refl
part_role part.Number s is = refl
part_role part.Goal s is = refl
part_role part.Goals s is = refl
part_role part.Objects s is = refl
part_role part.Metric s is = refl
part_role part.Words s is = refl
part_role part.Close s is = refl
part_role part.Total s is = refl
part_role part.TotalWord s is = refl
part_role _ s is = absurd (true≢false (sym is))

both : (a b : Bool) → a ≡ true → b ≡ true → (a && b) ≡ true
both a b p q = and_from a b p q

-- such parts can follow a word, a `(` and a `)`
word_due : (p : Part) (s : Sort) → is_problem_part p ≡ true → next_due (after_word p s) ≡ true
word_due part.ProblemDefine word.Define is = refl
word_due part.ProblemDefine s is = refl
word_due part.ProblemWord word.Problem is = refl
word_due part.ProblemWord s is = refl
word_due part.ProblemName s is = if_due (is_name_sort s) (next.One part.Close) refl
word_due part.OfDomainWord word.OfDomain is = refl
word_due part.OfDomainWord s is = refl
word_due part.OfDomainName s is = if_due (is_name_sort s) (next.One part.Close) refl
word_due (part.Statement seen) word.Requirements is = if_due _ (next.Two part.Words (part.Statements (record seen { requirements = true }))) refl
word_due (part.Statement seen) word.Objects is = if_due _ (next.Two (part.Names listing.Objects) (part.Statements (record seen { objects = true }))) refl
word_due (part.Statement seen) word.Init is = if_due _ (next.Two part.Facts (part.Statements (record seen { init = true }))) refl
word_due (part.Statement seen) word.Goal is = if_due _ (next.Two part.Goal (part.Statements (record seen { goal = true }))) refl
word_due (part.Statement seen) word.Metric is = if_due _ (next.Two part.Metric (part.Statements (record seen { metric = true }))) refl
word_due (part.Statement seen) s is = refl
word_due part.FactHead word.Equal is = refl
word_due part.FactHead s is = if_due (is_free_sort s) (next.One part.Objects) refl
word_due part.ValuedHead word.TotalCost is = refl
word_due part.ValuedHead s is = if_due (is_name_sort s) (next.One part.Objects) refl
word_due part.Number word.Numeral is = refl
word_due part.Number s is = refl
word_due part.GoalHead word.And is = refl
word_due part.GoalHead s is = if_due (is_free_sort s) (next.One part.Objects) refl
word_due part.Objects s is = if_due (is_name_sort s) (next.One part.Objects) refl
word_due part.Metric word.Minimize is = refl
word_due part.Metric s is = refl
word_due part.Words s is = refl
word_due part.TotalWord word.TotalCost is = refl
word_due part.TotalWord s is = refl
word_due (part.Names l) s is = if_due (is_name_sort s) (next.One (part.NamesMore l)) is
word_due (part.NamesMore l) word.Dash is = both (of_objects l) (of_objects l) is is
word_due (part.NamesMore l) s is = if_due (is_name_sort s) (next.One (part.NamesMore l)) is
word_due (part.NameType l) s is = if_due (is_name_sort s) next.Nothing refl
word_due part.Problem s is = refl
word_due part.ProblemHead s is = refl
word_due part.OfDomain s is = refl
word_due (part.Statements seen) s is = refl
word_due part.Facts s is = refl
word_due part.Valued s is = refl
word_due part.Goal s is = refl
word_due part.Goals s is = refl
word_due part.Close s is = refl
word_due part.Total s is = refl
word_due _ s is = absurd (true≢false (sym is))

open_due : (p : Part) → is_problem_part p ≡ true → next_due (after_open p) ≡ true
open_due (part.Statements seen) is = if_due _ (next.One (part.Statement seen)) refl
open_due part.Problem is = refl
open_due part.ProblemDefine is = refl
open_due part.ProblemHead is = refl
open_due part.ProblemWord is = refl
open_due part.ProblemName is = refl
open_due part.OfDomain is = refl
open_due part.OfDomainWord is = refl
open_due part.OfDomainName is = refl
open_due (part.Statement seen) is = refl
open_due part.Facts is = refl
open_due part.FactHead is = refl
open_due part.Valued is = refl
open_due part.ValuedHead is = refl
open_due part.Number is = refl
open_due part.Goal is = refl
open_due part.GoalHead is = refl
open_due part.Goals is = refl
open_due part.Objects is = refl
open_due part.Metric is = refl
open_due part.Words is = refl
open_due part.Close is = refl
open_due part.Total is = refl
open_due part.TotalWord is = refl
open_due (part.Names l) is = refl
open_due (part.NamesMore l) is = refl
open_due (part.NameType l) is = refl
open_due _ is = absurd (true≢false (sym is))

token_due : (p : Part) (t : Token) → is_problem_part p ≡ true → next_due (after p t) ≡ true
token_due p (Written text at from past) is = word_due p (sort text) is
token_due p (Open at) is = open_due p is
token_due p (Close at) is = if_due (may_close p) next.Nothing refl
token_due p (Stray at) is = refl

-- ---- the reading of a problem

abbrev IsOf : Word → Type 0
IsOf w = IsTrue (is_of_problem w.role)

all_more : (met : List Met) (m : Met) → AllByRecursion IsOf (words_of met) → IsOf (word_of m) → AllByRecursion IsOf (words_of (met ++ m ∷ []))
all_more [] m all is = (is, tt)
all_more (x ∷ met) m all is = (all.0, all_more met m all.1 is)

noted_roles : (p : Part) (t : Token) (met : List Met) → is_problem_part p ≡ true → AllByRecursion IsOf (words_of met) → AllByRecursion IsOf (words_of (noted p t met))
noted_roles p (Written text at from past) met is all = all_more met (record { part = p; text = text; at = at }) all (part_role p (sort text) is)
noted_roles p (Open at) met is all = all
noted_roles p (Close at) met is all = all
noted_roles p (Stray at) met is all = all

goes_due : (n : Next) (due : List Part) (f : TextFault) (go : List Part → Run) (d : List Part) (m : List Met) (Q : Type 0) → next_due n ≡ true → all_due due ≡ true
    → ((then : List Part) → all_due then ≡ true → go then ≡ Going d m → Q) → goes n due f go ≡ Going d m → Q
goes_due next.Nothing due f go d m Q first all more e = more due all e
goes_due (next.One p) due f go d m Q first all more e = more (p ∷ due) (and_from (is_problem_part p) (all_due due) first all) e
goes_due (next.Two p q) due f go d m Q first all more e =
    let parts = and_parts (is_problem_part p) (is_problem_part q) first in
    more (p ∷ q ∷ due) (and_from (is_problem_part p) (is_problem_part q && all_due due) parts.0 (and_from (is_problem_part q) (all_due due) parts.1 all)) e
goes_due next.Refused due f go d m Q first all more e = absurd cc

run_roles : (due : List Part) (met : List Met) (tokens : List Token) (d : List Part) (m : List Met) → all_due due ≡ true → AllByRecursion IsOf (words_of met) → run due met tokens ≡ Going d m → AllByRecursion IsOf (words_of m)
run_roles [] met [] d m ok all e = subst (λ ms. AllByRecursion IsOf (words_of ms)) (same_met [] d met m e) all
run_roles (p ∷ due) met [] d m ok all e = subst (λ ms. AllByRecursion IsOf (words_of ms)) (same_met (p ∷ due) d met m e) all
run_roles [] met (t ∷ tokens) d m ok all e = absurd cc
run_roles (p ∷ due) met (t ∷ tokens) d m ok all e =
    let parts = and_parts (is_problem_part p) (all_due due) ok in
    goes_due (after p t) due (fault_at p t tokens) (λ then. run then (noted p t met) tokens) d m (AllByRecursion IsOf (words_of m)) (token_due p t parts.0) parts.1
    (λ then more reached. run_roles then (noted p t met) tokens d m more (noted_roles p t met parts.0 all) reached) e

pub are_of_problem : (tokens : List Token) (met : List Met) → HasForm part.Problem tokens met → AreOfProblem (words_of met)
are_of_problem tokens met form = All-from_recursion IsOf (words_of met) (run_roles (part.Problem ∷ []) [] tokens [] met refl tt form)

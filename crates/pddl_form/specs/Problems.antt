-- Rows of the table: the sections of a problem. A row says what is due after a word.
use Rattle.std.specs.Prelude.{not, true}
use Rattle.pddl_form.specs.declared.parts.Listing.TheVariants as listing
use Rattle.pddl_form.specs.declared.parts.StatementsSeen.{StatementsSeen}
use Rattle.pddl_form.specs.declared.parts.Part.TheVariants as part
use Rattle.pddl_form.specs.declared.next.Next.{Next}
use Rattle.pddl_form.specs.declared.next.Next.TheVariants as next
use Rattle.pddl_form.specs.declared.sort.Sort.{Sort}
use Rattle.pddl_form.specs.declared.sort.Sort.TheVariants as word
use Rattle.pddl_form.specs.Rows.{only_if}
use Rattle.pddl_form.specs.Names.{is_free_sort, is_name_sort}

-- `(define (problem NAME) (:domain NAME) SECTION*)`
abbrev pub problem_define : Sort → Next
problem_define word.Define = next.Two part.ProblemHead part.OfDomain
problem_define s = next.Refused

-- `(problem NAME)`
abbrev pub problem_word : Sort → Next
problem_word word.Problem = next.One part.ProblemName
problem_word s = next.Refused

-- `(:domain NAME)`
abbrev pub of_domain_word : Sort → Next
of_domain_word word.OfDomain = next.One part.OfDomainName
of_domain_word s = next.Refused

-- each section of a problem at most once
abbrev pub statement : StatementsSeen → Sort → Next
statement seen word.Requirements =
    only_if (not seen.requirements) (next.Two part.Words
    (part.Statements (record seen { requirements = true })))
statement seen word.Objects =
    only_if (not seen.objects) (next.Two (part.Names listing.Objects)
    (part.Statements (record seen { objects = true })))
statement seen word.Init =
    only_if (not seen.init) (next.Two part.Facts (part.Statements (record seen { init = true })))
statement seen word.Goal =
    only_if (not seen.goal) (next.Two part.Goal (part.Statements (record seen { goal = true })))
statement seen word.Metric =
    only_if (not seen.metric) (next.Two part.Metric
    (part.Statements (record seen { metric = true })))
statement seen s = next.Refused

-- `(= VALUED NUMBER)` or `(NAME NAME*)`
abbrev pub fact_head : Sort → Next
fact_head word.Equal = next.Two part.Valued part.Number
fact_head s = only_if (is_free_sort s) (next.One part.Objects)

-- `(total-cost)` or `(NAME NAME*)`
abbrev pub valued_head : Sort → Next
valued_head word.TotalCost = next.One part.Close
valued_head s = only_if (is_name_sort s) (next.One part.Objects)

-- `(and COND*)` or `(NAME NAME*)`
abbrev pub goal_head : Sort → Next
goal_head word.And = next.One part.Goals
goal_head s = only_if (is_free_sort s) (next.One part.Objects)

-- a name
abbrev pub objects : Sort → Next
objects s = only_if (is_name_sort s) (next.One part.Objects)

-- `minimize (total-cost)`
abbrev pub metric : Sort → Next
metric word.Minimize = next.Two part.Total part.Close
metric s = next.Refused

-- Rows of the table: the sections of a domain. A row says what is due after a word.
use Rattle.std.specs.Prelude.{not, true}
use Rattle.pddl_form.specs.declared.parts.Listing.TheVariants as listing
use Rattle.pddl_form.specs.declared.parts.Owner.TheVariants as owner
use Rattle.pddl_form.specs.declared.parts.SectionsSeen.{SectionsSeen}
use Rattle.pddl_form.specs.declared.parts.Part.TheVariants as part
use Rattle.pddl_form.specs.declared.next.Next.{Next}
use Rattle.pddl_form.specs.declared.next.Next.TheVariants as next
use Rattle.pddl_form.specs.declared.sort.Sort.{Sort}
use Rattle.pddl_form.specs.declared.sort.Sort.TheVariants as word
use Rattle.pddl_form.specs.Rows.{only_if, no_sections}
use Rattle.pddl_form.specs.Names.{is_free_sort}

-- `(define (domain NAME) SECTION*)`
abbrev pub domain_define : Sort → Next
domain_define word.Define = next.Two part.DomainHead (part.Sections no_sections)
domain_define s = next.Refused

-- `(domain NAME)`
abbrev pub domain_word : Sort → Next
domain_word word.Domain = next.One part.DomainName
domain_word s = next.Refused

-- each section of a domain at most once, except the actions
abbrev pub section : SectionsSeen → Sort → Next
section seen word.Requirements =
    only_if (not seen.requirements) (next.Two part.Words
    (part.Sections (record seen { requirements = true })))
section seen word.Types =
    only_if (not seen.types) (next.Two (part.Names listing.Types)
    (part.Sections (record seen { types = true })))
section seen word.Constants =
    only_if (not seen.constants) (next.Two (part.Names listing.Constants)
    (part.Sections (record seen { constants = true })))
section seen word.Predicates =
    only_if (not seen.predicates) (next.Two part.Predicates
    (part.Sections (record seen { predicates = true })))
section seen word.Functions =
    only_if (not seen.functions) (next.Two part.Functions
    (part.Sections (record seen { functions = true })))
section seen word.Action = next.Two part.ActionName (part.Sections seen)
section seen s = next.Refused

-- `(NAME VARIABLES)`, the name not reserved
abbrev pub predicate_name : Sort → Next
predicate_name s = only_if (is_free_sort s) (next.One (part.Variables owner.Predicate))

-- `(NAME VARIABLES)` of a function, the name not reserved
abbrev pub function_name : Sort → Next
function_name s = only_if (is_free_sort s) (next.One (part.Variables owner.Function))

-- after a function: the dash before its type
abbrev pub function_tail : Sort → Next
function_tail word.Dash = next.Two part.FunctionType part.Functions
function_tail s = next.Refused

-- the only type of functions
abbrev pub function_type : Sort → Next
function_type word.NumberType = next.Nothing
function_type s = next.Refused

-- Pieces of the rows of the table.
use Rattle.std.specs.Prelude.{◌&&◌, Bool, false, if◌then◌else◌}
use Rattle.pddl_form.specs.declared.next.Next.{Next}
use Rattle.pddl_form.specs.declared.next.Next.TheVariants as next
use Rattle.pddl_form.specs.declared.parts.SectionsSeen.{SectionsSeen}
use Rattle.pddl_form.specs.declared.parts.KeysSeen.{KeysSeen}
use Rattle.pddl_form.specs.declared.parts.StatementsSeen.{StatementsSeen}

-- what is due, if the test passes
abbrev pub only_if : Bool → Next → Next
only_if test due = if test then due else next.Refused

-- no section of a domain has occurred
abbrev pub no_sections : SectionsSeen
no_sections = record {
  requirements = false;
  types = false;
  constants = false;
  predicates = false;
  functions = false;
}

-- no key of an action has occurred
abbrev pub no_keys : KeysSeen
no_keys = record { parameters = false; precondition = false; effect = false }

-- no section of a problem has occurred
abbrev pub no_statements : StatementsSeen
no_statements = record {
  requirements = false;
  objects = false;
  init = false;
  goal = false;
  metric = false;
}

-- each section of a problem has occurred
abbrev pub have_all_stood : StatementsSeen → Bool
have_all_stood seen =
    seen.init && (seen.goal && (seen.requirements && (seen.objects && seen.metric)))

-- Rows of the table: typed lists. A row says what is due after a word.
use Rattle.pddl_form.specs.declared.parts.Listing.{Listing}
use Rattle.pddl_form.specs.declared.parts.Owner.{Owner}
use Rattle.pddl_form.specs.declared.parts.Part.TheVariants as part
use Rattle.pddl_form.specs.declared.next.Next.{Next}
use Rattle.pddl_form.specs.declared.next.Next.TheVariants as next
use Rattle.pddl_form.specs.declared.sort.Sort.{Sort}
use Rattle.pddl_form.specs.declared.sort.Sort.TheVariants as word
use Rattle.pddl_form.specs.Rows.{only_if}
use Rattle.pddl_form.specs.Names.{is_name_sort}

-- a name that begins a group of a typed list
abbrev pub names : Listing → Sort → Next
names listing s = only_if (is_name_sort s) (next.One (part.NamesMore listing))

-- after a name of a typed list: a further name of the group, or the dash before its type
abbrev pub names_more : Listing → Sort → Next
names_more listing word.Dash = next.Two (part.NameType listing) (part.Names listing)
names_more listing s = only_if (is_name_sort s) (next.One (part.NamesMore listing))

-- a variable that begins a group of a typed list
abbrev pub variables : Owner → Sort → Next
variables owner word.Variable = next.One (part.VariablesMore owner)
variables owner s = next.Refused

-- after a variable: a further one of the group, or the dash before its type
abbrev pub variables_more : Owner → Sort → Next
variables_more owner word.Variable = next.One (part.VariablesMore owner)
variables_more owner word.Dash = next.Two (part.VariableType owner) (part.Variables owner)
variables_more owner s = next.Refused

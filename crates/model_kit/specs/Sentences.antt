-- The sentences of differences, and the text of an explanation.
use Rattle.std.specs.Prelude.{ℕ, ◌-◌, List, [], ◌∷◌, ◌++◌, map, flat_map, length, codes, decimal}
use Rattle.std.specs.Prelude.{slice_get, Bool, Some, if◌then◌else◌}
use Rattle.std.specs.Option.{option_map_or}
use Rattle.std.specs.Ordering.{nat_cmp}
use Rattle.std.specs.FinSet as set
use Rattle.mre_base.specs.Before.{numbers}
use Rattle.model_kit.specs.declared.vocabulary.Vocabulary.{Vocabulary}
use Rattle.model_kit.specs.declared.model.CostExpr.TheVariants.{Number, Call}
use Rattle.model_kit.specs.Places.{Place, Init, Goal, Knows, Pre, Add, Del, Cost, Value, Content}
use Rattle.model_kit.specs.Places.{Price, Worth}
use Rattle.model_kit.specs.Printed.{name_of, object_name, term_form, form, atom_form}
use Rattle.model_kit.specs.Printed.{schema_atom_form}
use Rattle.model_kit.specs.Differences.{patched}
use Rattle.model_kit.specs.Runs.{is_on, cost}
use Rattle.model_kit.specs.Explanations.{Task}

-- a cost is its number or its term, and an absent value is `none`
abbrev pub content_form : Vocabulary → Content → List ℕ
content_form words (Price (Number n)) = decimal n
content_form words (Price (Call f args)) =
    form (name_of words.functions f) (map (term_form words) args)
content_form words (Worth (Some n)) = decimal n
content_form words _ = codes "none"

-- `action N` and what is said of it
abbrev pub of_action : Vocabulary → ℕ → List ℕ → List ℕ
of_action words action said = codes "action " ++ name_of words.actions action ++ codes " " ++ said

-- what an action makes of an atom, or doesn't
abbrev pub makes : Bool → List ℕ → List ℕ → List ℕ
makes on atom truth =
    codes (if on then "makes " else "does not make ") ++ atom ++ codes " " ++ truth

-- the planner's and the user's, where both have one
abbrev pub not_other : Vocabulary → Content → Content → List ℕ
not_other words planner user =
    content_form words planner ++ codes ", not " ++ content_form words user

-- the sentence of a difference, by its content in the planner's model and in the user's
abbrev pub sentence : Vocabulary → Content → Content → Place → List ℕ
sentence words planner user (Init atom) =
    codes "initially " ++ atom_form words atom
    ++ codes (if is_on planner then " is true" else " is not true")
sentence words planner user (Goal atom) =
    codes (if is_on planner then "the goal has " else "the goal does not have ")
    ++ atom_form words atom
sentence words planner user (Knows action) =
    of_action words action (codes (if is_on planner then "exists" else "does not exist"))
sentence words planner user (Pre action atom) =
    of_action words action (codes (if is_on planner then "needs " else "does not need ")
    ++ schema_atom_form words atom)
sentence words planner user (Add action atom) =
    of_action words action (makes (is_on planner) (schema_atom_form words atom) (codes "true"))
sentence words planner user (Del action atom) =
    of_action words action (makes (is_on planner) (schema_atom_form words atom) (codes "false"))
sentence words planner user (Cost action) =
    of_action words action (codes "costs " ++ not_other words planner user)
sentence words planner user (Value f xs) =
    codes "the value of " ++ form (name_of words.functions f) (map (object_name words) xs)
    ++ codes " is " ++ not_other words planner user

-- a text with the line feed
abbrev pub line : List ℕ → List ℕ
line text = text ++ 10 ∷ []

-- `NUMBER SENTENCE` of a difference by its number, which counts from 1
abbrev pub difference_line : Task → ℕ → List ℕ
difference_line task n =
    option_map_or (λ place. line (decimal n ++ codes " "
    ++ sentence task.words (task.planner place) (task.user place) place))
    (slice_get task.places (n - 1)) []

-- `KIND K of D`, the lines of the differences with these numbers, and `cost C`
abbrev pub explanation_lines : List ℕ → Task → List ℕ → ℕ → List ℕ
explanation_lines kind task told price =
    line (kind ++ codes " " ++ decimal (length told) ++ codes " of "
    ++ decimal (length task.places))
    ++ flat_map (difference_line task) told
    ++ line (codes "cost " ++ decimal price)

-- the explanation of a kind, `mce` or `mme`, with these told differences; the cost is the plan's in
-- the user's model after them
abbrev pub explanation : List ℕ → Task → set.FinSet nat_cmp → List ℕ
explanation kind task told =
    explanation_lines kind task (numbers (length task.places) told)
    (cost (patched task.planner task.user task.places told) task.plan)

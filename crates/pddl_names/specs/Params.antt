-- Where the parameters of an action are declared first. Places count from 0 in the whole text.
use Rattle.std.specs.Prelude.{ℕ, ◌≡◌, ◌+◌, Bool, true, false, List, [], ◌∷◌, drop, Option, None}
use Rattle.std.specs.Prelude.{Some, if◌then◌else◌}
use Rattle.std.specs.Str.{bytes_eq}
use Rattle.mre_base.specs.declared.text.Text.{Text}
use Rattle.pddl_form.specs.declared.parts.Owner.TheVariants as owner
use Rattle.pddl_names.specs.declared.names.NameTable.{NameTable}
use Rattle.pddl_names.specs.declared.role.Role.{Role}
use Rattle.pddl_names.specs.declared.role.Role.TheVariants as role
use Rattle.pddl_names.specs.declared.role.Word.{Word}
use Rattle.pddl_names.specs.Numbers.{number_in}

-- a word of this role is the name of an action, or a parameter of one
abbrev pub is_action_name : Role → Bool
is_action_name role.Action = true
is_action_name r = false

abbrev pub is_param : Role → Bool
is_param (role.Variable owner.Action) = true
is_param r = false

-- a word at a place: a parameter with or without the name, the next action, or another word
abbrev pub param_at : Role → ℕ → Bool → Option ℕ → Option ℕ
param_at (role.Variable owner.Action) place same later = if same then Some place else later
param_at role.Action place same later = None
param_at r place same later = later

-- the place of the first parameter with the name, up to the next action, among the words from a
-- place on
abbrev pub first_param : ℕ → List Word → Text → Option ℕ
first_param from [] name = None
first_param from (w ∷ rest) name =
    param_at w.role from (bytes_eq w.text name) (first_param (from + 1) rest name)

-- the table has the first place of each parameter, up to the next action, from a place on
abbrev pub AreParamPlaces : List Word → ℕ → NameTable → Type 0
AreParamPlaces words start table =
    (name : Text) → number_in table name ≡ first_param start (drop start words) name

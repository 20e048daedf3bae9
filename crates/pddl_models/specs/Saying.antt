-- Which roles words have that say something of a body or a problem.
use Rattle.std.specs.Prelude.{◌≡◌, Bool, true, false, IsTrue, List, All, codes}
use Rattle.std.specs.Str.{bytes_eq}
use Rattle.pddl_names.specs.declared.role.Role.{Role}
use Rattle.pddl_names.specs.declared.role.Role.TheVariants as role
use Rattle.pddl_names.specs.declared.role.Says.{Says}
use Rattle.pddl_names.specs.declared.role.Word.{Word}
use Rattle.pddl_models.specs.Says.{same_says}

-- a word of this role is the head of an atom that says this
abbrev pub is_saying : Says → Role → Bool
is_saying due (role.Head says) = same_says due says
is_saying due r = false

-- a word of this role is an increase by a number, or the function of one
abbrev pub is_costing : Role → Bool
is_costing role.Numeral = true
is_costing role.Cost = true
is_costing r = false

-- a word of this role is the function of a value
abbrev pub is_value : Role → Bool
is_value role.Value = true
is_value r = false

-- a word of this role is the function of a cost or a value
abbrev pub is_calling : Role → Bool
is_calling role.Cost = true
is_calling role.Value = true
is_calling r = false

-- `total-cost` isn't the function of a cost or a value
abbrev pub AreNoTotals : List Word → Type 0
AreNoTotals words =
    All (λ (w : Word). IsTrue (is_calling w.role) → bytes_eq w.text (codes "total-cost") ≡ false)
    words

-- a word of this role may occur in a problem
abbrev pub is_of_problem : Role → Bool
is_of_problem role.ListedObject = true
is_of_problem role.ObjectType = true
is_of_problem role.Dash = true
is_of_problem (role.Head says) = true
is_of_problem role.Value = true
is_of_problem role.Term = true
is_of_problem role.Numeral = true
is_of_problem role.Metric = true
is_of_problem role.Other = true
is_of_problem r = false

-- the words have roles of problems: they declare objects alone, and no action
abbrev pub AreOfProblem : List Word → Type 0
AreOfProblem words = All (λ (w : Word). IsTrue (is_of_problem w.role)) words

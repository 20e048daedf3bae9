-- What the form of a text says of each of its words alone: names are names, and numbers are
-- numbers.
use Rattle.std.specs.Prelude.{◌≡◌, Bool, true, false, IsTrue, IsSome, List, All}
use Rattle.model_kit.specs.Names.{is_name}
use Rattle.pddl_form.specs.Numbers.{number}
use Rattle.pddl_names.specs.declared.role.Role.{Role}
use Rattle.pddl_names.specs.declared.role.Role.TheVariants as role
use Rattle.pddl_names.specs.declared.role.Word.{Word}

-- a word of this role is a name
abbrev pub is_naming : Role → Bool
is_naming role.ListedType = true
is_naming role.ParentType = true
is_naming role.ListedObject = true
is_naming role.ObjectType = true
is_naming role.Predicate = true
is_naming role.Function = true
is_naming role.Action = true
is_naming role.VariableType = true
is_naming _ = false

-- the word is a name in lower case where its role asks for one, and a number where it asks for that
pub record IsFormed (w : Word) : Type 0 where
  pub name : IsTrue (is_naming w.role) → IsTrue (is_name w.text)
  pub numeral : w.role ≡ role.Numeral → IsSome (number w.text)

-- each word is formed
abbrev pub AreFormed : List Word → Type 0
AreFormed words = All IsFormed words

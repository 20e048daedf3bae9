-- Which numbers the types have that words name.
use Rattle.std.specs.Prelude.{ℕ, ◌≡◌, Bool, true, false, List, codes, unwrap_or}
use Rattle.mre_base.specs.declared.text.Text.{Text}
use Rattle.pddl_names.specs.declared.role.Role.{Role}
use Rattle.pddl_names.specs.declared.role.Role.TheVariants as role
use Rattle.pddl_names.specs.declared.role.Word.{Word}
use Rattle.pddl_vocabulary.specs.declared.vocabulary_types.TypeNumbers.{TypeNumbers}
use Rattle.pddl_names.specs.Groups.{AreTypePlaces}
use Rattle.pddl_names.specs.Numbers.{number_in}

-- a word of this role is the name of a type: one that is listed, or a parent
abbrev pub is_type_name : Role → Bool
is_type_name role.ListedType = true
is_type_name role.ParentType = true
is_type_name r = false

-- the number of the type with this name, and that of `object` where there is no such type
abbrev pub type_number : TypeNumbers → Text → ℕ
type_number types name = unwrap_or (number_in types.numbers name) 0

-- the first type is `object`, and the places are those of the words' types
pub record AreTypesOf (words : List Word) (types : TypeNumbers) : Type 0 where
  pub object : type_number types (codes "object") ≡ 0
  pub places : AreTypePlaces words types.places.items

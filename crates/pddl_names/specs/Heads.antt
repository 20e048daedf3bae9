-- What is known of the words that are followed by terms: the heads of atoms, costs and values.
use Rattle.std.specs.Prelude.{ℕ, ◌&&◌, Bool, true, false, List, length, Option}
use Rattle.std.specs.Option.{option_map}
use Rattle.pddl_names.specs.declared.heads.Heads.{Heads}
use Rattle.pddl_names.specs.declared.role.Role.{Role}
use Rattle.pddl_names.specs.declared.role.Role.TheVariants as role
use Rattle.pddl_names.specs.declared.role.Word.{Word}
use Rattle.pddl_names.specs.Arities.{AreArities}
use Rattle.pddl_names.specs.Groups.{AreTermCounts, AreParamCounts}
use Rattle.pddl_names.specs.Listings.{Declared}
use Rattle.pddl_names.specs.Naming.{due_types, is_none}

-- the tables have what is declared, and the counts of these words
pub record AreHeads (known : Declared) (words : List Word) (heads : Heads) : Type 0 where
  pub predicates : AreArities known.predicates heads.predicates
  pub functions : AreArities known.functions heads.functions
  pub terms : AreTermCounts words heads.terms.items
  pub params : AreParamCounts words heads.params.items

-- how many terms a declared head must have
abbrev pub due_count : Declared → Word → Option ℕ
due_count known w = option_map length (due_types known w)

-- the word is the head of an atom, a cost or a value
abbrev pub is_head : Role → Bool
is_head (role.Head says) = true
is_head role.Cost = true
is_head role.Value = true
is_head r = false

-- nothing declares the head
abbrev pub is_unknown_head : Declared → Word → Bool
is_unknown_head known w = is_head w.role && is_none (due_types known w)

-- Where the names of each kind of thing are declared first. Places count from 0.
use Rattle.std.specs.Prelude.{ℕ, ◌≡◌, ◌&&◌, Bool, true, false, List, Option}
use Rattle.std.specs.List.{position_from}
use Rattle.std.specs.Str.{bytes_eq}
use Rattle.mre_base.specs.declared.text.Text.{Text}
use Rattle.pddl_names.specs.declared.kind.Kind.{Kind}
use Rattle.pddl_names.specs.declared.kind.Kind.TheVariants as kind
use Rattle.pddl_names.specs.declared.names.NameTable.{NameTable}
use Rattle.pddl_names.specs.declared.role.Role.{Role}
use Rattle.pddl_names.specs.declared.role.Role.TheVariants as role
use Rattle.pddl_names.specs.declared.role.Word.{Word}
use Rattle.pddl_names.specs.Numbers.{number_in}

-- a word of this role declares a thing of the kind
abbrev pub is_kind : Kind → Role → Bool
is_kind kind.Types role.ListedType = true
is_kind kind.Objects role.ListedObject = true
is_kind kind.Predicates role.Predicate = true
is_kind kind.Functions role.Function = true
is_kind kind.Actions role.Action = true
is_kind k r = false

-- the word declares this name
abbrev pub declares : Kind → Text → Word → Bool
declares k name w = is_kind k w.role && bytes_eq w.text name

-- the place of the first word that declares the name
abbrev pub first_place : Kind → List Word → Text → Option ℕ
first_place k words name = position_from (declares k name) 0 words

-- the table has the first place of each name
abbrev pub ArePlaces : Kind → List Word → NameTable → Type 0
ArePlaces k words table = (name : Text) → number_in table name ≡ first_place k words name

-- a second thing of the kind with the same name is one too many, or is not looked at again
abbrev pub is_once : Kind → Bool
is_once kind.Objects = false
is_once k = true

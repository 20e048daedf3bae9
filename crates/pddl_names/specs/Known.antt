-- What is declared, as the lists that the check of names keeps.
use Rattle.std.specs.Prelude.{Bool, true, false, List, [], map}
use Rattle.pddl_names.specs.declared.known.Base.{Base}
use Rattle.pddl_names.specs.declared.known.Known.{Known}
use Rattle.pddl_names.specs.declared.kind.Kind.{Kind}
use Rattle.pddl_names.specs.declared.kind.Kind.TheVariants as kind
use Rattle.pddl_names.specs.declared.role.Role.{Role}
use Rattle.pddl_names.specs.declared.role.Role.TheVariants as role
use Rattle.pddl_names.specs.declared.role.Word.{Word}
use Rattle.pddl_names.specs.Listings.{Typed, Declared, types_listed, objects_listed}
use Rattle.pddl_names.specs.Texts.{entry_declared, signature_declared}

-- what the lists say is declared
abbrev pub declared_in : Known → Declared
declared_in known = record {
  types = known.types;
  objects = known.objects;
  predicates = known.predicates;
  functions = known.functions;
}

-- what is declared before a text
abbrev pub declared_before : Base → Declared
declared_before base = record {
  types = map (entry_declared base.types.now) base.types.now;
  objects = map (entry_declared base.types.now) base.objects.now;
  predicates = map (signature_declared base.types.now) base.predicates.now;
  functions = map (signature_declared base.types.now) base.functions.now;
}

-- things of the kind have a type
abbrev pub is_typed : Kind → Bool
is_typed kind.Types = true
is_typed kind.Objects = true
is_typed k = false

-- the things of the kind that the words list, with their types or parents
abbrev pub typed_in : Kind → List Word → List Typed
typed_in kind.Types words = types_listed words
typed_in kind.Objects words = objects_listed words
typed_in k words = []

-- a word of this role is a parameter, or goes on with a group of them
abbrev pub is_variable_role : Role → Bool
is_variable_role (role.Variable o) = true
is_variable_role r = false

abbrev pub is_group_role : Role → Bool
is_group_role role.Dash = true
is_group_role role.VariableType = true
is_group_role r = false

-- How many parameters what is declared by a name has. A table of them is `Arities`.
use Rattle.std.specs.Prelude.{ℕ, ◌≡◌, Bool, true, false, List, [], map, length, Option, Some}
use Rattle.std.specs.Prelude.{if◌then◌else◌}
use Rattle.std.specs.BTreeMap.{get}
use Rattle.std.specs.Cmp.Lexicographic.{slice_cmp}
use Rattle.std.specs.Ordering.{nat_cmp}
use Rattle.std.specs.Option.{option_map}
use Rattle.std.specs.Str.{bytes_eq}
use Rattle.mre_base.specs.declared.text.Text.{Text}
use Rattle.model_kit.specs.declared.vocabulary.Signature.{Signature}
use Rattle.pddl_names.specs.declared.arities.Arities.{Arities}
use Rattle.pddl_names.specs.declared.kind.Kind.{Kind}
use Rattle.pddl_names.specs.declared.kind.Kind.TheVariants as kind
use Rattle.pddl_names.specs.declared.role.Word.{Word}
use Rattle.pddl_names.specs.Listings.{Signed, first_of, predicates_in, functions_in}
use Rattle.pddl_names.specs.Texts.{signature_declared}

-- things of the kind have parameters, and are the heads of atoms and costs
abbrev pub is_signed : Kind → Bool
is_signed kind.Predicates = true
is_signed kind.Functions = true
is_signed k = false

-- the things of the kind that the words declare, with their parameters' types
abbrev pub signed_in : Kind → List Word → List Signed
signed_in kind.Predicates words = predicates_in words
signed_in kind.Functions words = functions_in words
signed_in k words = []

-- the same of what was declared before the words
abbrev pub signed_before : List (Text × ℕ) → List Signature → List Signed
signed_before types base = map (signature_declared types) base

-- how many parameters the first entry of a name has
abbrev pub arity_of : List Signed → Text → Option ℕ
arity_of entries name = option_map length (first_of entries name)

-- what a table has for a name
abbrev pub count_in : Arities → Text → Option ℕ
count_in table name = get (slice_cmp nat_cmp) table.counts name

-- the name has this count after, and each other name has what it had before
abbrev pub PutsCount : Arities → Arities → Text → ℕ → Type 0
PutsCount old new name count =
    (other : Text) → count_in new other
    ≡ (if bytes_eq name other then Some count else count_in old other)

-- the table has how many parameters the first entry of each name has
abbrev pub AreArities : List Signed → Arities → Type 0
AreArities entries table = (name : Text) → count_in table name ≡ arity_of entries name

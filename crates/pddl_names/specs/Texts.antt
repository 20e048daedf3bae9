-- Which bytes are the text of a domain or a problem, what they say, and where bytes that are none
-- break a rule first:
-- in three passes, the words and lists of the text, its form, and its names.
use Rattle.std.specs.Prelude.{ℕ, ◌≡◌, List, [], map, codes, Option, None, Some, Result, Ok, Err}
use Rattle.std.specs.Prelude.{unwrap_or, slice_get}
use Rattle.std.specs.Option.{option_map}
use Rattle.mre_base.specs.declared.text.Text.{Text}
use Rattle.pddl_text.specs.declared.fault.TextFault.{TextFault}
use Rattle.pddl_text.specs.declared.tree.Forest.{Forest}
use Rattle.pddl_text.specs.Forests.{Spells, IsFirstFault, tokens_of_all}
use Rattle.pddl_text.specs.Reading.{forest_of}
use Rattle.pddl_form.specs.declared.parts.Met.{Met}
use Rattle.pddl_form.specs.declared.parts.Part.{Part}
use Rattle.pddl_form.specs.First.{HasForm, LeavesForm}
use Rattle.pddl_form.specs.Runs.{form_of}
use Rattle.model_kit.specs.declared.vocabulary.Signature.{Signature}
use Rattle.model_kit.specs.declared.vocabulary.Vocabulary.{Vocabulary}
use Rattle.pddl_names.specs.declared.role.Word.{Word}
use Rattle.pddl_names.specs.FirstNames.{first_broken}
use Rattle.pddl_names.specs.Listings.{Typed, Signed, Declared}
use Rattle.pddl_names.specs.Naming.{IsNamed, IsMisnamed}
use Rattle.pddl_names.specs.Numbers.{entry_name}
use Rattle.pddl_names.specs.Reading.{with_value}
use Rattle.pddl_names.specs.Roles.{words_of}

-- ---- what a vocabulary declares

abbrev pub type_name : List (Text × ℕ) → ℕ → Text
type_name types type = unwrap_or (option_map entry_name (slice_get types type)) (codes "object")

abbrev pub entry_declared : List (Text × ℕ) → Text × ℕ → Typed
entry_declared types entry = (entry.0, type_name types entry.1)

abbrev pub signature_declared : List (Text × ℕ) → Signature → Signed
signature_declared types s = (s.name, map (type_name types) s.params)

-- what a domain declares before its problems
abbrev pub declared_by : Vocabulary → Declared
declared_by words = record {
  types = map (entry_declared words.types) words.types;
  objects = map (entry_declared words.types) words.objects;
  predicates = map (signature_declared words.types) words.predicates;
  functions = map (signature_declared words.types) words.functions;
}

-- ---- texts

-- the bytes are a text of the grammar that begins with this part, its words are these, and none
-- breaks a rule of names after what was declared before
pub record IsSaid (start : Part) (base : Declared) (bytes : List ℕ)
    (said : List Word) : Type 0 where
  pub forest : Forest
  pub met : List Met
  pub spelled : Spells bytes forest
  pub form : HasForm start (tokens_of_all forest.trees) met
  pub words : said ≡ words_of met
  pub named : IsNamed base said

-- the first fault of the bytes: of their words and lists, and else of their form, and else of their
-- names
pub data IsUnsaid (start : Part) (base : Declared) (bytes : List ℕ)
    (fault : TextFault) : Type 0 where
  text : IsFirstFault bytes fault → IsUnsaid start base bytes fault
  form : (forest : Forest)
      → Spells bytes forest
      → LeavesForm start forest fault
      → IsUnsaid start base bytes fault
  names : (forest : Forest) (met : List Met)
      → Spells bytes forest
      → HasForm start (tokens_of_all forest.trees) met
      → IsMisnamed base (words_of met) fault
      → IsUnsaid start base bytes fault

-- ---- as functions on lists

abbrev pub unless : Option TextFault → List Word → Result (List Word) TextFault
unless None said = Ok said
unless (Some fault) said = Err fault

-- the words, where none breaks a rule of names
abbrev pub named_words : Declared → List Met → Result (List Word) TextFault
named_words base met = unless (first_broken base [] (words_of met)) (words_of met)

-- what the bytes of a text are read as
abbrev pub said_of : Part → Declared → List ℕ → Result (List Word) TextFault
said_of start base bytes =
    with_value (forest_of bytes) (λ forest. with_value (form_of start forest) (named_words base))

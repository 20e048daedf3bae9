-- Tables of the names of a vocabulary, and of the parameters of an action, by the places that
-- `place_in` has for them.
use Rattle.std.specs.Prelude.{◌≡◌, List, unwrap_or}
use Rattle.mre_base.specs.declared.text.Text.{Text}
use Rattle.model_kit.specs.declared.vocabulary.Vocabulary.{Vocabulary}
use Rattle.pddl_names.specs.declared.names.NameTable.{NameTable}
use Rattle.pddl_models.specs.declared.word_tables.WordTables.{WordTables}
use Rattle.pddl_names.specs.Numbers.{number_in}
use Rattle.pddl_vocabulary.specs.Values.{place_in, words_named, names_of}

-- the table has the place of each name among the names, or nothing where the place is 0
abbrev pub ArePlacesOf : List Text → NameTable → Type 0
ArePlacesOf names table = (name : Text) → unwrap_or (number_in table name) 0 ≡ place_in names name

-- the tables are those of the vocabulary
pub record AreWordTables (words : Vocabulary) (tables : WordTables) : Type 0 where
  pub predicates : ArePlacesOf (words_named words.predicates) tables.predicates
  pub functions : ArePlacesOf (words_named words.functions) tables.functions
  pub objects : ArePlacesOf (names_of words.objects) tables.objects

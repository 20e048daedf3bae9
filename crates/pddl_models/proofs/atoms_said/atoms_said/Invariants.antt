use Rattle.std.proofs.Common.{◌≡◌, ℕ, List, map, drop}
use Rattle.std.specs.Prelude.{fold}
use Rattle.model_kit.specs.declared.vocabulary.Vocabulary.{Vocabulary}
use Rattle.model_kit.specs.Same.{same_schema_atom}
use Rattle.pddl_models.specs.Unrepeated.{with_first, schema_atom_key, AreSeen}
use Rattle.pddl_models.specs.WordTables.{ArePlacesOf, AreWordTables}
use Rattle.pddl_vocabulary.specs.Values.{firsts, words_named, names_of}
use Rattle.pddl_models.specs.Says.{schema_atom_said, atoms_in, own_words}
use Rattle.pddl_models.proofs.atoms_said.atoms_said.Given as goal

abbrev pub invariant-loop-place : goal.invariant-loop-place
invariant-loop-place l = record {
  seen : AreSeen schema_atom_key l.made l.seen;
  rest : (words : Vocabulary) (own : List (List ℕ)) → AreWordTables words l.tables → ArePlacesOf own l.params →
      fold (with_first same_schema_atom) l.made (map (schema_atom_said (words_named words.predicates) (names_of words.objects) own) (atoms_in l.due (own_words (drop l.place l.said))))
      ≡ firsts same_schema_atom (map (schema_atom_said (words_named words.predicates) (names_of words.objects) own) (atoms_in l.due (own_words (drop l.fn.start l.said))));
}

use Rattle.std.proofs.Common.{◌≡◌, map, drop}
use Rattle.std.specs.Prelude.{fold}
use Rattle.model_kit.specs.declared.vocabulary.Vocabulary.{Vocabulary}
use Rattle.model_kit.specs.Same.{same_atom}
use Rattle.pddl_models.specs.Unrepeated.{with_first, atom_key, AreSeen}
use Rattle.pddl_models.specs.WordTables.{AreWordTables}
use Rattle.pddl_models.specs.Says.{ground_atom_said, atoms_in, facts_said}
use Rattle.pddl_models.proofs.facts.facts_said.Given as goal

abbrev pub invariant-loop-place : goal.invariant-loop-place
invariant-loop-place l = record {
  seen : AreSeen atom_key l.made l.seen;
  rest : (words : Vocabulary) → AreWordTables words l.tables →
      fold (with_first same_atom) l.made (map (ground_atom_said words) (atoms_in l.due (drop l.place l.said))) ≡ facts_said l.due words l.said;
}

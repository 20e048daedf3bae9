use Rattle.std.proofs.Common.{◌≡◌, map, drop}
use Rattle.std.specs.Prelude.{fold}
use Rattle.model_kit.specs.declared.vocabulary.Vocabulary.{Vocabulary}
use Rattle.model_kit.specs.Features.{same_key}
use Rattle.pddl_models.specs.Unrepeated.{with_first, value_key, AreSeen}
use Rattle.pddl_names.specs.Listings.{values_in}
use Rattle.pddl_models.specs.WordTables.{AreWordTables}
use Rattle.pddl_vocabulary.specs.Values.{firsts}
use Rattle.pddl_models.specs.Says.{value_said}
use Rattle.pddl_models.proofs.facts.values_said.Given as goal

abbrev pub invariant-loop-place : goal.invariant-loop-place
invariant-loop-place l = record {
  seen : AreSeen value_key l.made l.seen;
  rest : (words : Vocabulary) → AreWordTables words l.tables →
      fold (with_first same_key) l.made (map (value_said words) (values_in (drop l.place l.said))) ≡ firsts same_key (map (value_said words) (values_in l.said));
}

use Rattle.pddl_text.specs.Forests.{Spells, IsFirstFault}
use Rattle.pddl_text.specs.Reading.{forest_of}
use Rattle.pddl_text.proofs.ExactLemmas.{either, never_both, same_value, same_fault}
use Rattle.pddl_text.proofs.ForestLemmas.{forest_exact}
use Rattle.pddl_text.proofs.laws.law_forests.Goals as goal

pub returns : goal.returns
returns c = record {
  either = λ bytes. either (forest_of bytes) (Spells bytes) (IsFirstFault bytes) (forest_exact bytes);
  never_both = λ bytes. never_both (forest_of bytes) (Spells bytes) (IsFirstFault bytes) (forest_exact bytes);
  one_forest = λ bytes. same_value (forest_of bytes) (Spells bytes) (IsFirstFault bytes) (forest_exact bytes);
  one_fault = λ bytes. same_fault (forest_of bytes) (Spells bytes) (IsFirstFault bytes) (forest_exact bytes);
}

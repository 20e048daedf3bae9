use Rattle.pddl_text.proofs.ExactLemmas.{either, never_both, same_value, same_fault}
use Rattle.pddl_names.specs.Texts.{IsSaid, IsUnsaid, said_of}
use Rattle.pddl_names.proofs.TextLemmas.{said_exact}
use Rattle.pddl_names.proofs.laws.law_texts.Goals as goal

pub returns : goal.returns
returns c = record {
  either = λ start whole base bytes. either (said_of start base bytes) (IsSaid start base bytes) (IsUnsaid start base bytes) (said_exact start whole base bytes);
  never_both = λ start whole base bytes. never_both (said_of start base bytes) (IsSaid start base bytes) (IsUnsaid start base bytes) (said_exact start whole base bytes);
  one_list = λ start whole base bytes. same_value (said_of start base bytes) (IsSaid start base bytes) (IsUnsaid start base bytes) (said_exact start whole base bytes);
  one_fault = λ start whole base bytes. same_fault (said_of start base bytes) (IsSaid start base bytes) (IsUnsaid start base bytes) (said_exact start whole base bytes);
}

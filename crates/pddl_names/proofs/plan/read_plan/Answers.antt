use Rattle.pddl_text.proofs.ExactLemmas.{gives_ok, gives_fault, gives_spelled, gives_broken, gives_also}
use Rattle.pddl_names.specs.PlanNames.{IsPlanText, IsFirstFault}
use Rattle.pddl_names.specs.Reading.{read_of}
use Rattle.pddl_names.proofs.PlanLemmas.{text_exact, text_fits, text_few}
use Rattle.pddl_names.proofs.plan.read_plan.Goals as goal

pub returns : goal.returns
returns c =
    let bytes = c.args.bytes.now in
    let words = c.args.words.now in
    let read = read_of words bytes in
    let exact = text_exact words bytes in
    let result = c.read_text.result in
    let gives = c.read_text.ensures in
    record {
      ok = gives_ok read (IsPlanText words bytes) (IsFirstFault words bytes) exact result gives;
      fault = gives_fault read (IsPlanText words bytes) (IsFirstFault words bytes) exact result gives;
      succeeds = gives_spelled read (IsPlanText words bytes) (IsFirstFault words bytes) exact result gives;
      refuses = gives_broken read (IsPlanText words bytes) (IsFirstFault words bytes) exact result gives;
      fits = gives_also read (IsPlanText words bytes) (IsFirstFault words bytes) exact _ (text_fits words bytes) result gives;
      few = gives_also read (IsPlanText words bytes) (IsFirstFault words bytes) exact _ (text_few words bytes) result gives;
    }

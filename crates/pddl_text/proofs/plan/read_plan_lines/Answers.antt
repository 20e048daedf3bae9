use Rattle.pddl_text.specs.PlanReading.{lines_of}
use Rattle.pddl_text.specs.Plans.{SpellsPlan, LeavesPlan}
use Rattle.pddl_text.proofs.ExactLemmas.{gives_ok, gives_fault, gives_spelled, gives_broken, gives_also}
use Rattle.pddl_text.proofs.FewLemmas.{lines_named, lines_few}
use Rattle.pddl_text.proofs.PlanLemmas.{plan_exact}
use Rattle.pddl_text.proofs.WordLemmas.{words_ascend}
use Rattle.pddl_text.proofs.plan.read_plan_lines.Goals as goal

pub returns : goal.returns
returns c =
    let bytes = c.args.bytes.now in
    let read = lines_of bytes in
    let exact = plan_exact bytes in
    let result = c.answer.result in
    let gives = c.answer.ensures in
    record {
      ok = gives_ok read (SpellsPlan bytes) (LeavesPlan bytes) exact result gives;
      fault = gives_fault read (SpellsPlan bytes) (LeavesPlan bytes) exact result gives;
      succeeds = gives_spelled read (SpellsPlan bytes) (LeavesPlan bytes) exact result gives;
      refuses = gives_broken read (SpellsPlan bytes) (LeavesPlan bytes) exact result gives;
      words = gives_also read (SpellsPlan bytes) (LeavesPlan bytes) exact _ (words_ascend bytes) result gives;
      named = gives_also read (SpellsPlan bytes) (LeavesPlan bytes) exact _ (lines_named bytes) result gives;
      few = gives_also read (SpellsPlan bytes) (LeavesPlan bytes) exact _ (lines_few bytes) result gives;
    }

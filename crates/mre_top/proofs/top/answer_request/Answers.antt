use Rattle.std.proofs.Common.{inr, subst}
use Rattle.mre_top.specs.Calls.{sink_change}
use Rattle.mre_top.specs.Reporting.{IsReported}
use Rattle.mre_top.proofs.top.answer_request.Goals as goal

pub returns-in-Err-clause-ended : goal.returns-in-Err-clause-ended
returns-in-Err-clause-ended g c =
    inr (record {
      answer = c.refuse.ensures.answer;
      refusal = c.in-Err.refusal;
      by = record {
        refused = c.in-Err.ensures.err;
        rose = c.in-Err.ensures.read_failed;
        missing = c.in-Err.ensures.sound;
        leaves = c.in-Err.ensures.leaves;
      };
      reported = subst (λ names. IsReported (sink_change g.E.Sink c.args.faults.now c.refuse.new.faults) names c.in-Err.refusal c.refuse.result.status) c.files.ensures c.refuse.ensures.reported;
    })

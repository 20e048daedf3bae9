use Rattle.std.proofs.Common.{ℕ, ◌+◌, ◌*◌, arith}
use Rattle.std.proofs.lemmas.Result.{on_ok_weaker}
use Rattle.feature_diff.specs.Parts.{GainsGroup}
use Rattle.feature_diff.proofs.JoinLemmas.{gathered_next}
use Rattle.feature_diff.proofs.actions.tell_action.Goals as goal

pub returns : goal.returns
returns c =
    let i : ℕ = c.args.action in
    record {
      ok =
          on_ok_weaker c.tell_cost.result
          (λ (gains : GainsGroup c.args.planner.now c.args.user.now (6 + 5 * c.args.action) c.tell_part-3.new.gathered c.tell_cost.new.gathered) before.
          gathered_next c.args.planner.now c.args.user.now (6 + 5 * i) (2 + 5 * (i + 1)) (omega arith) c.tell_part-3.new.gathered c.tell_cost.new.gathered gains
          (gathered_next c.args.planner.now c.args.user.now (5 + 5 * i) (6 + 5 * i) (omega arith) c.tell_part-2.new.gathered c.tell_part-3.new.gathered c.in_ok-tell_part-3.ensures.ok
          (gathered_next c.args.planner.now c.args.user.now (4 + 5 * i) (5 + 5 * i) (omega arith) c.tell_part.new.gathered c.tell_part-2.new.gathered c.in_ok-tell_part-2.ensures.ok
          (gathered_next c.args.planner.now c.args.user.now (3 + 5 * i) (4 + 5 * i) (omega arith) c.tell_knowledge.new.gathered c.tell_part.new.gathered c.in_ok-tell_part.ensures.ok
          (gathered_next c.args.planner.now c.args.user.now (2 + 5 * i) (3 + 5 * i) (omega arith) c.args.gathered.now c.tell_knowledge.new.gathered c.in_ok-tell_knowledge.ensures.ok before)))))
          c.tell_cost.ensures.ok;
    }

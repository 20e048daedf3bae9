use Rattle.std.proofs.Common.{All, sym, subst, arith}
use Rattle.std.proofs.lemmas.List.Elements.{All-push}
use Rattle.task_kit.specs.Kept.{action_meaning}
use Rattle.task_kit.specs.Tasks.{IsAction}
use Rattle.case_kit.proofs.MadeLemmas.{actions_more}
use Rattle.case_kit.proofs.table.CaseTable.actions_by.Goals as goal

pub loop-place-preserved : goal.loop-place-preserved
loop-place-preserved c =
    record {
      is = actions_more c.args.self.now c.args.cube.now c.args.way c.loop-place.made c.push.new.self c.in_ok-action_by.field-0 c.loop-place.place c.in_ok-push.ensures.ok (omega arith) c.loop-place.invariant.is
          c.in_ok-action_by.ensures.is;
      in_range = subst (All (λ action. IsAction c.args.self.now.atoms (action_meaning action))) (sym c.in_ok-push.ensures.ok)
          (All-push (λ action. IsAction c.args.self.now.atoms (action_meaning action)) c.loop-place.made c.in_ok-action_by.field-0 c.loop-place.invariant.in_range c.in_ok-action_by.ensures.in_range);
    }

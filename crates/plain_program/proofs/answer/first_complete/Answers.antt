use Rattle.std.proofs.Common.{◌≡◌, length, subst, arith}
use Rattle.mre_base.proofs.Listed.{item_contained}
use Rattle.plain_program.proofs.BestLemmas.{IsBest, best_more, best_first}
use Rattle.plain_program.proofs.answer.first_complete.Goals as goal

pub loop-place-preserved : goal.loop-place-preserved
loop-place-preserved c =
    let sets = c.in_ok-sets.sets in
    let told = c.item.result.now in
    best_more c.args.table.now c.args.plan.now sets c.loop-place.place told c.item.ensures c.loop-place.best c.in_ok-best.best
    (c.in_ok-sets.ensures.within told (item_contained sets c.loop-place.place told c.item.ensures)) c.loop-place.invariant c.in_ok-best.ensures

pub returns : goal.returns
returns c =
    let sets = c.in_ok-sets.sets in
    let at_end : c.loop-place.place ≡ length sets = omega (arith, c.len-place-end.ensures, c.loop-place-test.false, c.loop-place.auto.place-end) in
    record {
      ok = best_first c.args.table.now c.args.plan.now sets c.loop-place.best c.in_ok-sets.ensures
          (subst (λ n. IsBest c.args.table.now c.args.plan.now sets n c.loop-place.best) at_end c.loop-place.invariant);
    }

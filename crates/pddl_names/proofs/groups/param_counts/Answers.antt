use Rattle.std.proofs.Common.{ℕ, ◌≤◌, length, drop, ◌∙◌, arith}
use Rattle.pddl_names.proofs.CountLemmas.{params_behind, param_step, param_room}
use Rattle.pddl_names.proofs.ScanLemmas.{scan_more}
use Rattle.pddl_names.proofs.groups.param_counts.Goals as goal

pub loop-place-preserved : goal.loop-place-preserved
loop-place-preserved c =
    let loop = c.loop-place in
    let words = c.args.words.now in
    let within : loop.place ≤ length words = omega arith in
    record {
      scanned = scan_more (λ (n : ℕ). n) params_behind words loop.place loop.behind c.own_count-behind.result loop.counts.items loop.invariant.scanned c.loop-place-test.true within c.item.result.now c.item.ensures
          (c.own_count-behind.ensures ∙ param_step c.item.result.now (drop loop.place words) loop.behind loop.invariant.scanned.behind_is);
      room = param_room c.item.result.now loop.behind c.own_count-behind.result loop.place (length words) c.own_count-behind.ensures loop.invariant.room c.loop-place-test.true;
    }

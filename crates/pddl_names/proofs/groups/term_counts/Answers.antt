use Rattle.std.proofs.Common.{ℕ, ◌+◌, ◌≤◌, length, drop, sym, ◌∙◌, arith}
use Rattle.pddl_names.proofs.CountLemmas.{count_behind, count_term, count_other}
use Rattle.pddl_names.proofs.ScanLemmas.{scan_more}
use Rattle.pddl_names.proofs.groups.term_counts.Goals as goal

pub loop-place-preserved-then-is_term : goal.loop-place-preserved-then-is_term
loop-place-preserved-then-is_term c =
    let loop = c.loop-place in
    let words = c.args.words.now in
    let within : loop.place ≤ length words = omega arith in
    record {
      scanned = scan_more (λ (n : ℕ). n) count_behind words loop.place loop.behind (loop.behind + 1) loop.counts.items loop.invariant.scanned c.loop-place-test.true within c.item.result.now c.item.ensures
          (count_term c.item.result.now (drop loop.place words) loop.behind (sym c.is_term.ensures ∙ c.if-is_term.true) loop.invariant.scanned.behind_is);
      room = omega arith;
    }

pub loop-place-preserved : goal.loop-place-preserved
loop-place-preserved c =
    let loop = c.loop-place in
    let words = c.args.words.now in
    let within : loop.place ≤ length words = omega arith in
    record {
      scanned = scan_more (λ (n : ℕ). n) count_behind words loop.place loop.behind 0 loop.counts.items loop.invariant.scanned c.loop-place-test.true within c.item.result.now c.item.ensures
          (count_other c.item.result.now (drop loop.place words) (sym c.is_term.ensures ∙ c.if-is_term.false));
      room = omega arith;
    }

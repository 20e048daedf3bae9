use Rattle.std.proofs.Common.{◌+◌, ◌<◌, ◌^◌, get_or, arith, sym, ap, ◌∙◌}
use Rattle.std.specs.Int.Count.{ones-le}
use Rattle.std.specs.Prelude.{count_ones}
use Rattle.mre_base.proofs.WordCounts.{length-filter-word}
use Rattle.mre_base.proofs.words.count.Goals as goal

pub loop-word-preserved : goal.loop-word-preserved
loop-word-preserved c =
    let fits : get_or c.args.words.now c.loop-word.word-index 0 < 2 ^ 64 = omega (arith, c.type_inv.words c.loop-word.word-index) in
    let few = ones-le 64 (get_or c.args.words.now c.loop-word.word-index 0) fits in
    record {
      counted = ap (λ n. n + count_ones (get_or c.args.words.now c.loop-word.word-index 0)) c.loop-word.invariant.counted ∙ sym (length-filter-word c.args.words.now c.loop-word.word-index fits);
      small = omega (arith, few);
    }

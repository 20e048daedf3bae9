use Rattle.std.proofs.Common.{subst, arith, ap, sym}
use Rattle.mre_outside.proofs.Streams.{IsWritten, IsWritten_more, IsWritten_kept}
use Rattle.mre_outside.proofs.stream.write_to.Goals as goal
use Rattle.mre_outside.proofs.stream.write_to.Goals.{in-Ok, in-Err+else-ne}

pub loop-preserved : goal.loop-preserved
loop-preserved g c =
    let IsLeft : _ → Type 0 = λ rest. IsWritten (g.W.Write.contents c.args.writer.now) (g.W.Write.contents c.write.new.self) c.args.bytes.now rest in
    elim c.match-write.branch [
      | in-Ok w ↦ record {
        written = subst IsLeft (ap (λ r. r.now) (sym w.rest-is)) (IsWritten_more _ _ _ _ _ w.in-Ok.count c.loop.invariant.written w.in-Ok.ensures.bytes);
        never_falls = omega arith;
      }
      | in-Err+else-ne w ↦ record {
        written = subst IsLeft (ap (λ r. r.now) (sym w.rest-is)) (IsWritten_kept _ _ _ _ _ c.loop.invariant.written w.in-Err.ensures.bytes);
        never_falls = omega arith;
      }
    ]

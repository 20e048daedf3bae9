use Rattle.std.proofs.Common.{arith}
use Rattle.bound_cert.proofs.RoomLemmas.{next_weights}
use Rattle.bound_cert.proofs.pruning.is_enough.Goals as goal

pub loop-place-preserved : goal.loop-place-preserved
loop-place-preserved c =
    record {
      sum = λ atoms. omega (arith, c.loop-place.invariant.sum atoms, next_weights atoms c.args.cuts.now c.loop-place.place c.item.result.now c.item.ensures);
      small = omega arith;
    }

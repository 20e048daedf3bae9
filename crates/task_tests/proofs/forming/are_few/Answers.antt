use Rattle.std.proofs.Common.{◌^◌, ◌<◌, length, subst, arith}
use Rattle.std.proofs.lemmas.List.{take_all}
use Rattle.bound_cert.specs.Lines.{lines}
use Rattle.task_tests.proofs.FormLemmas.{counted_next}
use Rattle.task_tests.proofs.forming.are_few.Goals as goal

pub loop-place-preserved : goal.loop-place-preserved
loop-place-preserved c =
    record {
      counted = λ atoms.
          omega (arith, counted_next atoms c.args.states.now c.loop-place.place c.item.result.now c.loop-place.count c.item.ensures (c.loop-place.invariant.counted atoms), c.cuts_in-cuts.ensures);
      few = omega arith;
    }

pub returns : goal.returns
returns c _ atoms =
    subst (λ states. length (lines atoms states) < 2 ^ 31) (take_all c.loop-place.place c.args.states.now (omega (arith, c.loop-place-test.false, c.len-place-end.ensures)))
    (omega (arith, c.loop-place.invariant.counted atoms, c.loop-place.invariant.few))

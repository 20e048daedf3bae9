use Rattle.std.proofs.Common.{◌≡◌, ◌<◌, length}
use Rattle.model_kit.specs.Types.{ancestor}
use Rattle.pair_rules.specs.Fitting.{AreAbove}
use Rattle.pair_rules.proofs.fitting.types_of.Given as goal

abbrev pub invariant-loop-step : goal.invariant-loop-step
invariant-loop-step l =
    record {
      above : AreAbove l.words.types l.initial.current l._step l.types;
      current : l.current ≡ ancestor l.words.types l._step l.initial.current;
      listed : l.current < length l.words.types;
    }

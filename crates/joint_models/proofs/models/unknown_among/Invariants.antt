use Rattle.std.proofs.Common.{◌≡◌}
use Rattle.std.specs.Prelude.{not, filter}
use Rattle.std.specs.List.{range_with_len}
use Rattle.model_kit.specs.Printed.{name_of}
use Rattle.model_kit.specs.Pairs.{is_named}
use Rattle.joint_models.proofs.models.unknown_among.Given as goal

abbrev pub invariant-loop-place : goal.invariant-loop-place
invariant-loop-place l = l.unknown ≡ filter (λ n. not (is_named l.known.entries (name_of l.actions n))) (range_with_len 0 l.place)

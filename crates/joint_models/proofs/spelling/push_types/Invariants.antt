use Rattle.std.proofs.Common.{◌≡◌, ◌++◌, take, map}
use Rattle.std.specs.List.{join_with_byte}
use Rattle.std.specs.String.{string_bytes}
use Rattle.model_kit.specs.Pairs.{type_name}
use Rattle.joint_models.proofs.spelling.push_types.Given as goal

abbrev pub invariant-loop-place : goal.invariant-loop-place
invariant-loop-place l = string_bytes l.text ≡ string_bytes l.fn.text ++ join_with_byte 32 (map (type_name l.words) (take l.place l.types))

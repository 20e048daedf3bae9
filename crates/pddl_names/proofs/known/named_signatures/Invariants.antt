use Rattle.std.proofs.Common.{◌≡◌, map, take}
use Rattle.pddl_names.specs.Texts.{signature_declared}
use Rattle.pddl_names.proofs.known.named_signatures.Given as goal

abbrev pub invariant-loop-place : goal.invariant-loop-place
invariant-loop-place l = l.made ≡ map (signature_declared l.types) (take l.place l.signatures)

use Rattle.std.proofs.Common.{◌≡◌, map, take}
use Rattle.pddl_names.specs.Texts.{entry_declared}
use Rattle.pddl_names.proofs.known.named_entries.Given as goal

abbrev pub invariant-loop-place : goal.invariant-loop-place
invariant-loop-place l = l.made ≡ map (entry_declared l.types) (take l.place l.entries)

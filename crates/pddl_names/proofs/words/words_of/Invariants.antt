use Rattle.std.proofs.Common.{◌≡◌, map, take}
use Rattle.pddl_names.specs.Roles.{word_of}
use Rattle.pddl_names.proofs.words.words_of.Given as goal

abbrev pub invariant-loop-place : goal.invariant-loop-place
invariant-loop-place l = l.made ≡ map word_of (take l.place l.met)

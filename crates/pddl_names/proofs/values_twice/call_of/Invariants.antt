use Rattle.std.proofs.Common.{◌≡◌, map}
use Rattle.std.specs.List.{between}
use Rattle.pddl_names.specs.declared.role.Word.{Word}
use Rattle.pddl_names.proofs.values_twice.call_of.Given as goal

abbrev pub invariant-loop-at : goal.invariant-loop-at
invariant-loop-at l = l.names.items ≡ map (λ (w : Word). w.text) (between l.fn.place l.at l.words)

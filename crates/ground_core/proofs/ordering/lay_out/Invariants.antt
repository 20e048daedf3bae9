use Rattle.std.proofs.Common.{◌≡◌, ◌++◌, map}
use Rattle.ground_core.proofs.ordering.lay_out.Given as goal

abbrev pub invariant-loop-name : goal.invariant-loop-name
invariant-loop-name g l = (l.names.items ++ map (λ e. e.0) l.name-iterator ≡ map (λ e. e.0) l.fn.index.entries) × (l.things ++ map (λ e. e.1) l.name-iterator ≡ map (λ e. e.1) l.fn.index.entries)

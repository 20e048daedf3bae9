use Rattle.std.proofs.Common.{take}
use Rattle.std.specs.Prelude.{Contains}
use Rattle.ground_core.specs.Ordered.{IsIndexOf}
use Rattle.ground_core.proofs.ordering.index_of.Given as goal

abbrev pub invariant-loop-place : goal.invariant-loop-place
invariant-loop-place g l = IsIndexOf (g.T.Printable.form l.words) l.place (Contains (take l.place l.things)) l.index

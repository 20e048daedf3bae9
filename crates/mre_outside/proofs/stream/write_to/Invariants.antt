use Rattle.std.proofs.Common.{◌≤◌}
use Rattle.mre_outside.proofs.Streams.{IsWritten}
use Rattle.mre_outside.proofs.stream.write_to.Given as goal

abbrev pub invariant-loop : goal.invariant-loop
invariant-loop g l = record {
  written : IsWritten (g.W.Write.contents l.initial.writer) (g.W.Write.contents l.writer) l.bytes l.rest;
  never_falls : l.initial.failures ≤ l.failures;
}

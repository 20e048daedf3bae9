use Rattle.std.proofs.Common.{◌+◌, ◌≤◌, length, vec_capacity}
use Rattle.std.specs.Io.KnownBytes.{Consumes}
use Rattle.mre_outside.proofs.stream.read_from.Given as goal

abbrev pub invariant-loop : goal.invariant-loop
invariant-loop g l = record {
  consumed : Consumes (g.R.Read.remaining l.initial.reader) (g.R.Read.remaining l.reader) l.bytes.items;
  within : length l.bytes.items ≤ l.limit;
  room : l.limit + 1 ≤ vec_capacity l.bytes;
  never_falls : l.initial.failures ≤ l.failures;
}

use Rattle.std.proofs.Common.{◌≤◌, take}
use Rattle.std.specs.List.{concat}
use Rattle.std.specs.Io.KnownBytes.{Appends}
use Rattle.mre_top.proofs.writing.write_lines.Given as goal

abbrev pub invariant-loop-place : goal.invariant-loop-place
invariant-loop-place g l = record {
  written : Appends (g.S.Sink.written l.fn.sink) (g.S.Sink.written l.sink) (concat (take l.place l.lines));
  never_falls : g.S.Sink.failures l.fn.sink ≤ g.S.Sink.failures l.sink;
  sound : g.S.Sink.is_sound l.fn.sink → g.S.Sink.is_sound l.sink;
}

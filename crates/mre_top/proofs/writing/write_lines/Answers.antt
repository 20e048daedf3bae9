use Rattle.std.proofs.Common.{arith, subst, sym, take, ◌∙◌}
use Rattle.std.specs.List.{concat}
use Rattle.std.specs.Io.KnownBytes.{Appends}
use Rattle.mre_top.proofs.Lines.{wrote_line, wrote_part}
use Rattle.mre_top.proofs.writing.write_lines.Goals as goal

pub returns-in-Err-clause-err : goal.returns-in-Err-clause-err
returns-in-Err-clause-err g c =
    wrote_part c.args.lines.now c.loop-place.place c.item.result.now c.item.ensures (g.S.Sink.written c.args.sink.now) (g.S.Sink.written c.loop-place.sink)
    (g.S.Sink.written c.write_line.new.sink) c.loop-place.invariant.written c.in-Err.ensures.err

pub loop-place-preserved : goal.loop-place-preserved
loop-place-preserved g c = record {
  written = wrote_line c.args.lines.now c.loop-place.place c.item.result.now c.item.ensures (g.S.Sink.written c.args.sink.now) (g.S.Sink.written c.loop-place.sink)
      (g.S.Sink.written c.write_line.new.sink) c.loop-place.invariant.written c.in_default.ensures.ok;
  never_falls = omega (arith, c.loop-place.invariant.never_falls, c.write_line.ensures.never_falls);
  sound = λ sound. c.write_line.ensures.stays_sound (c.loop-place.invariant.sound sound);
}

pub returns-in-Err-clause-no_memory : goal.returns-in-Err-clause-no_memory
returns-in-Err-clause-no_memory g c e = (
  c.loop-place.place,
  omega arith,
  subst (λ told. Appends (g.S.Sink.written c.args.sink.now) told (concat (take c.loop-place.place c.args.lines.now)))
      (sym (c.write_line.ensures.no_memory (c.in-Err.is ∙ e))) c.loop-place.invariant.written,
)

use Rattle.std.proofs.Common.{◌∙◌, ◌<◌, ℕ, List, [], Err, ap, arith, inr, length, refl, subst, take}
use Rattle.std.specs.List.{concat}
use Rattle.std.specs.Io.KnownBytes.{Appends}
use Rattle.mre_outside.proofs.Streams.{Appends-nothing}
use Rattle.mre_top.specs.Refusals.{memory_line}
use Rattle.mre_top.specs.Reporting.{first_lines}
use Rattle.mre_top.proofs.SomeLines.{some_lines}
use Rattle.mre_top.proofs.Written.{written_after}
use Rattle.mre_top.proofs.reporting.report.Goals as goal

pub returns-in_default-lines-clause-reported : goal.returns-in_default-lines-clause-reported
returns-in_default-lines-clause-reported g c =
    let sound = g.E.Sink.is_sound c.args.faults.now in
    let old = g.E.Sink.written c.args.faults.now in
    let before = g.E.Sink.failures c.args.faults.now in
    let new = c.report_no_memory-in_default-lines.new.faults in
    let reported = c.report_no_memory-in_default-lines.ensures in
    inr (
      reported.status,
      (
        0,
        some_lines c.args.files.now c.args.refusal.now,
        written_after sound sound (λ s. s) [] memory_line old old (g.E.Sink.written new) before before (g.E.Sink.failures new) (omega arith) (Appends-nothing old old refl) reported.reported,
      ),
    )

pub returns-clause-reported : goal.returns-clause-reported
returns-clause-reported g c =
    let old = c.args.faults.now in
    let mid = c.write_lines.new.sink in
    let new = c.report_no_memory-in-Err-NoMemory.new.faults in
    let reported = c.report_no_memory-in-Err-NoMemory.ensures in
    let first = c.write_lines.ensures.no_memory (c.in-Err-NoMemory.is ∙ ap Err c.in-Err-NoMemory.field-0-is) in
    let start = subst (λ lines. Appends (g.E.Sink.written old) (g.E.Sink.written mid) (concat (take first.0 lines))) c.in-Ok.ensures.ok first.2 in
    let fewer = subst (λ (lines : List (List ℕ)). first.0 < length lines) c.in-Ok.ensures.ok first.1 in
    inr (
      reported.status,
      (
        first.0,
        fewer,
        written_after (g.E.Sink.is_sound old) (g.E.Sink.is_sound mid) c.write_lines.ensures.stays_sound
            (first_lines c.args.files.now c.args.refusal.now first.0) memory_line
            (g.E.Sink.written old) (g.E.Sink.written mid) (g.E.Sink.written new) (g.E.Sink.failures old) (g.E.Sink.failures mid) (g.E.Sink.failures new)
            c.write_lines.ensures.never_falls start reported.reported,
      ),
    )

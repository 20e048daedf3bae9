use Rattle.mre_top.specs.Refusals.{memory_line}
use Rattle.mre_top.proofs.Written.{by_answer}
use Rattle.mre_top.proofs.reporting.report_no_memory.Goals as goal

pub returns-clause-reported : goal.returns-clause-reported
returns-clause-reported g c =
    by_answer (g.E.Sink.is_sound c.args.faults.now) memory_line (g.E.Sink.written c.args.faults.now) (g.E.Sink.written c.write_all.new.self)
    (g.E.Sink.failures c.args.faults.now) (g.E.Sink.failures c.write_all.new.self) c.write_all.result
    c.write_all.ensures.ok c.write_all.ensures.part c.write_all.ensures.no_memory c.write_all.ensures.failed c.write_all.ensures.sound

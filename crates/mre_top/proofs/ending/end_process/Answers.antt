use Rattle.std.proofs.Common.{rules}
use Rattle.mre_top.proofs.Ended.{ends_as}
use Rattle.mre_top.proofs.ending.end_process.Goals as goal

pub returns-in-Ok-clause-called : goal.returns-in-Ok-clause-called
returns-in-Ok-clause-called g c =
    let all = c.explain_top.ensures in
    let ends = ends_as {call = _} c.explain_top.result all.headline all.success all.refusal all.contents all.traces all.stays in
    search rules

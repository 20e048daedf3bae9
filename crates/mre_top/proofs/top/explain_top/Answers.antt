use Rattle.mre_top.proofs.Promised as promised
use Rattle.mre_top.proofs.top.explain_top.Goals as goal

pub returns-clause-headline : goal.returns-clause-headline
returns-clause-headline g c = promised.headline _ c.run.result c.run.ensures.ended

pub returns-clause-success : goal.returns-clause-success
returns-clause-success g c = promised.on_success _ c.run.result c.run.ensures.ended

pub returns-clause-refusal : goal.returns-clause-refusal
returns-clause-refusal g c = promised.on_refusal _ c.run.result c.run.ensures.ended

pub returns-clause-contents : goal.returns-clause-contents
returns-clause-contents g c = promised.on_contents _ c.run.result c.run.ensures.ended

pub returns-clause-traces : goal.returns-clause-traces
returns-clause-traces g c = promised.on_traces _ c.run.result c.run.ensures.ended

use Rattle.relax_cuts.proofs.cutting.cuts_for.Goals as goal

pub returns-clause-lawful : goal.returns-clause-lawful
returns-clause-lawful g c = c.in_ok-cuts.ensures.lawful

pub returns-clause-forced : goal.returns-clause-forced
returns-clause-forced g c = c.in_ok-cuts.ensures.forced

pub returns-clause-above_0 : goal.returns-clause-above_0
returns-clause-above_0 g c place d lt = (c.in_ok-cuts.ensures.formed place d lt).weight

pub returns-clause-lean : goal.returns-clause-lean
returns-clause-lean g c = c.in_ok-cuts.ensures.lean

pub returns-clause-ascending : goal.returns-clause-ascending
returns-clause-ascending g c place d lt = (c.in_ok-cuts.ensures.formed place d lt).ascending

pub returns-clause-atoms : goal.returns-clause-atoms
returns-clause-atoms g c place d lt = (c.in_ok-cuts.ensures.formed place d lt).below

use Rattle.std.proofs.Common.{[]}
use Rattle.pddl_text.proofs.reading.Reader.end.Goals as goal

pub returns-in-Ok : goal.returns-in-Ok
returns-in-Ok c = rw (c.in-Ok.ensures.ok c.args.spot.place [] tt, c.in-Ok.ensures.between) c.finish.ensures

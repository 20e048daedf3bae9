use Rattle.std.proofs.Common.{◌<◌, All, subst}
use Rattle.std.proofs.lemmas.List.{take_all}
use Rattle.std.proofs.lemmas.List.Elements.{All-more}
use Rattle.task_tests.proofs.forming.are_below.Goals as goal

pub loop-atom-preserved : goal.loop-atom-preserved
loop-atom-preserved c = All-more (λ atom. atom < c.args.bound) c.args.atoms.now c.loop-atom.atom-index 0 c.loop-atom-test.true c.loop-atom.invariant c.if-bound-atom.false

pub returns : goal.returns
returns c _ = subst (All (λ atom. atom < c.args.bound)) (take_all c.loop-atom.atom-index c.args.atoms.now c.loop-atom-test.false) c.loop-atom.invariant

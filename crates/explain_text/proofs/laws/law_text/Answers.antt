use Rattle.std.specs.Prelude.{length}
use Rattle.mre_base.specs.Before.{numbers}
use Rattle.explain_text.proofs.LawLemmas.{list_holds, lines_hold, text_holds}
use Rattle.explain_text.proofs.laws.law_text.Goals as goal

pub returns-clause-list : goal.returns-clause-list
returns-clause-list c = λ task are head chosen. list_holds task c.args.differences.now are head chosen

pub returns-clause-lines : goal.returns-clause-lines
returns-clause-lines c = λ task are. lines_hold task c.args.differences.now are c.args.kind (numbers (length c.args.differences.now) c.args.told.now) c.args.cost

pub returns-clause-text : goal.returns-clause-text
returns-clause-text c = λ task are. text_holds task c.args.differences.now are c.args.kind c.args.told.now c.args.cost

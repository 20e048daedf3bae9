use Rattle.case_kit.proofs.SoundLemmas.{cost_listed, action_sound}
use Rattle.case_kit.proofs.MadeLemmas.{cost_made}
use Rattle.case_kit.proofs.table.CaseTable.cost_by.Goals as goal

pub known_cost_by-requires-clause-cost : goal.known_cost_by-requires-clause-cost
known_cost_by-requires-clause-cost c =
    let table = c.args.self.now in cost_listed table.d c.item.result.now.cost table.sound.few_differences (action_sound table c.args.action c.item.result.now c.item.ensures).cost

pub returns : goal.returns
returns c =
    cost_made c.args.self.now c.args.cube.now c.args.way c.args.action c.item.result.now c.item.ensures c.known_cost_by.result c.known_cost_by.ensures.is

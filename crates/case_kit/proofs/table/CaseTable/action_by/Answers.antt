use Rattle.std.proofs.Common.{ap, ◌∙◌}
use Rattle.case_kit.specs.Evaluated.{atoms_where, counts}
use Rattle.case_kit.proofs.SoundLemmas.{cost_listed, action_sound}
use Rattle.case_kit.proofs.MadeLemmas.{action_made, action_fits}
use Rattle.case_kit.proofs.table.CaseTable.action_by.Goals as goal

pub known_cost_by-requires-clause-cost : goal.known_cost_by-requires-clause-cost
known_cost_by-requires-clause-cost c =
    let table = c.args.self.now in cost_listed table.d c.item-cases.result.now.cost table.sound.few_differences (action_sound table c.args.action c.item-cases.result.now c.item-cases.ensures).cost

pub returns-clause-is : goal.returns-clause-is
returns-clause-is c =
    action_made c.args.self.now c.args.cube.now c.args.way c.args.action c.item-cases.result.now c.item-cases.ensures
    (record { pre = c.in_ok-atoms_by.field-0; add = c.in_ok-atoms_by-2.field-0; del = c.in_ok-atoms_by-3.field-0; cost = c.known_cost_by.result })
    (c.in_ok-atoms_by.ensures ∙ ap (λ w. atoms_where (counts w c.args.cube.now) c.item-cases.result.now.pre) c.opposite-against.ensures) c.in_ok-atoms_by-2.ensures
    (c.in_ok-atoms_by-3.ensures ∙ ap (λ w. atoms_where (counts w c.args.cube.now) c.item-cases.result.now.del) c.opposite-against.ensures) c.known_cost_by.ensures.is

pub returns-clause-in_range : goal.returns-clause-in_range
returns-clause-in_range c =
    action_fits c.args.self.now c.args.cube.now c.args.way c.args.action c.item-cases.result.now c.item-cases.ensures
    (record { pre = c.in_ok-atoms_by.field-0; add = c.in_ok-atoms_by-2.field-0; del = c.in_ok-atoms_by-3.field-0; cost = c.known_cost_by.result })
    (c.in_ok-atoms_by.ensures ∙ ap (λ w. atoms_where (counts w c.args.cube.now) c.item-cases.result.now.pre) c.opposite-against.ensures) c.in_ok-atoms_by-2.ensures
    (c.in_ok-atoms_by-3.ensures ∙ ap (λ w. atoms_where (counts w c.args.cube.now) c.item-cases.result.now.del) c.opposite-against.ensures) c.known_cost_by.ensures.fits

use Rattle.task_kit.proofs.KeptLemmas.{lists_in_range}
use Rattle.task_tests.proofs.making.action_of.Goals as goal

pub returns : goal.returns
returns c =
    lists_in_range c.args.atoms (record { pre = c.in_ok-list_below.field-0; add = c.in_ok-list_below-2.field-0; del = c.in_ok-list_below-3.field-0; cost = c.cost_of.result })
    c.in_ok-list_below.ensures c.in_ok-list_below-2.ensures c.in_ok-list_below-3.ensures c.cost_of.ensures.fits

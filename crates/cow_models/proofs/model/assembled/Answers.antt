use Rattle.cow_models.proofs.KeptRows.{is_kept, task_is}
use Rattle.cow_models.proofs.model.assembled.Goals as goal

pub invariant_of-result : goal.invariant_of-result
invariant_of-result c =
    is_kept c.args.table.now c.args.cube c.args.way c.args.rows c.requires.rows c.requires.number c.in_ok-start.start c.in_ok-goal.goal c.len.result c.in_ok-start.ensures c.in_ok-goal.ensures c.len.ensures

pub returns : goal.returns
returns c =
    λ j. record {
      way = c.args.way;
      cube = c.args.cube;
      task = task_is c.args.table.now c.args.cube c.args.way c.args.rows c.requires.rows c.requires.number c.in_ok-start.start c.in_ok-goal.goal c.len.result c.in_ok-start.ensures c.in_ok-goal.ensures c.len.ensures j;
    }

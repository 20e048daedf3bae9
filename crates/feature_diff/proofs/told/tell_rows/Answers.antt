use Rattle.feature_diff.specs.Gathering.{row_told, AreWithin}
use Rattle.mre_base.proofs.Loops.{All_item}
use Rattle.feature_diff.proofs.GatherLemmas.{grows_none, grows_row}
use Rattle.feature_diff.proofs.told.tell_rows.Goals as goal

pub loop-place-init : goal.loop-place-init
loop-place-init g c = grows_none c.args.gathered.now

pub tell_row-requires-clause-planner_within : goal.tell_row-requires-clause-planner_within
tell_row-requires-clause-planner_within g c = (All_item c.args.rows.now c.loop-place.place c.item.result.now c.item.ensures (AreWithin c.args.planner.now c.args.user.now) c.requires).0

pub tell_row-requires-clause-user_within : goal.tell_row-requires-clause-user_within
tell_row-requires-clause-user_within g c = (All_item c.args.rows.now c.loop-place.place c.item.result.now c.item.ensures (AreWithin c.args.planner.now c.args.user.now) c.requires).1

pub loop-place-preserved : goal.loop-place-preserved
loop-place-preserved g c =
    grows_row (row_told (g.T.Told.alone c.args.kind.now) (g.T.Told.both c.args.kind.now) c.args.planner.now c.args.user.now) c.args.rows.now c.loop-place.place c.item.result.now c.item.ensures
    c.args.gathered.now c.loop-place.gathered c.tell_row.new.gathered c.loop-place.invariant c.in_ok-tell_row.ensures.ok

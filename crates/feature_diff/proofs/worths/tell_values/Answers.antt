use Rattle.std.proofs.Common.{refl}
use Rattle.std.proofs.lemmas.Result.{on_ok_weaker}
use Rattle.feature_diff.proofs.ValueLemmas.{values_fit, values_gained}
use Rattle.feature_diff.proofs.worths.tell_values.Goals as goal

pub tell-requires-clause-planner_fits : goal.tell-requires-clause-planner_fits
tell-requires-clause-planner_fits c = values_fit c.args.planner.now.words c.args.planner.now refl

pub tell-requires-clause-user_fits : goal.tell-requires-clause-user_fits
tell-requires-clause-user_fits c = values_fit c.args.planner.now.words c.args.user.now c.requires.joint

pub returns : goal.returns
returns c = record { ok = on_ok_weaker c.tell.result (values_gained c.args.planner.now c.args.user.now c.requires.joint c.args.gathered.now c.tell.new.gathered) c.tell.ensures.ok }

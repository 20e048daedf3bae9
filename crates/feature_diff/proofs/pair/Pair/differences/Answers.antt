use Rattle.std.proofs.Common.{refl}
use Rattle.feature_diff.proofs.JoinLemmas.{few_gathered, many_gathered}
use Rattle.feature_diff.proofs.pair.Pair.differences.Goals as goal

pub returns-then-found-gt-MOST_DIFFERENCES-clause-too_many : goal.returns-then-found-gt-MOST_DIFFERENCES-clause-too_many
returns-then-found-gt-MOST_DIFFERENCES-clause-too_many c =
    (refl, many_gathered c.args.self.now.planner c.args.self.now.user c.args.self.now.joint c.in_ok-found.field-0 c.in_ok-found.ensures.ok c.if-found-gt-MOST_DIFFERENCES.true)

pub returns-clause-ok : goal.returns-clause-ok
returns-clause-ok c = (few_gathered c.args.self.now.planner c.args.self.now.user c.args.self.now.joint c.in_ok-found.field-0 c.in_ok-found.ensures.ok c.if-found-gt-MOST_DIFFERENCES.false).0

pub returns-clause-few : goal.returns-clause-few
returns-clause-few c = (few_gathered c.args.self.now.planner c.args.self.now.user c.args.self.now.joint c.in_ok-found.field-0 c.in_ok-found.ensures.ok c.if-found-gt-MOST_DIFFERENCES.false).1

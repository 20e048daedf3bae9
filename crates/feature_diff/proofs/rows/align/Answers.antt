use Rattle.std.proofs.Common.{length, ◌≡◌, subst, arith}
use Rattle.std.proofs.lemmas.Result.{IfOk-weaker}
use Rattle.feature_diff.specs.Rows.{IsTable, AreRows, IsLaidOut}
use Rattle.feature_diff.proofs.RowLemmas.{nothing_noted}
use Rattle.feature_diff.proofs.rows.align.Goals as goal

pub loop-place-init : goal.loop-place-init
loop-place-init c = nothing_noted c.new-table.result c.new-table.ensures.empty c.args.planner.now c.args.user.now

pub returns : goal.returns
returns c = record {
  ok =
      let all : c.loop-place-2.place ≡ length c.args.user.now = omega arith in
      IfOk-weaker c.lay_out.result (IsLaidOut c.loop-place-2.table) (AreRows c.args.planner.now c.args.user.now)
      (λ rows laid. laid c.args.planner.now c.args.user.now (subst (λ n. IsTable c.args.planner.now (length c.args.planner.now) c.args.user.now n c.loop-place-2.table) all c.loop-place-2.invariant))
      c.lay_out.ensures.ok;
}

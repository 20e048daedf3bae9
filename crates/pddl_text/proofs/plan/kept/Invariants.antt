use Rattle.std.proofs.Common.{◌≡◌, ◌≤◌}
use Rattle.pddl_text.specs.Plans.{kept}
use Rattle.pddl_text.proofs.KeptLemmas.{kept_at}
use Rattle.pddl_text.proofs.plan.kept.Given as goal

abbrev pub invariant-loop-place : goal.invariant-loop-place
invariant-loop-place l = record {
  within : l.end ≤ l.place;
  so_far : kept l.row ≡ kept_at l.row l.place l.end;
}

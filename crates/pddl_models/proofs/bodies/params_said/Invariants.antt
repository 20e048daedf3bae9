use Rattle.std.proofs.Common.{◌≡◌, ◌++◌, ◌≤◌, map, drop, length}
use Rattle.pddl_names.specs.Numbers.{entry_name}
use Rattle.pddl_models.specs.Says.{param_names}
use Rattle.pddl_models.proofs.bodies.params_said.Given as goal

abbrev pub invariant-loop-place : goal.invariant-loop-place
invariant-loop-place l = record {
  names : map entry_name l.made ++ param_names (drop l.place l.said) ≡ param_names (drop l.fn.start l.said);
  so_far : length l.made ≤ l.place;
  few : length l.made ≤ length l.said;
}

use Rattle.std.proofs.Common.{◌≤◌, All, length}
use Rattle.case_tests.specs.Sided.{IsSidedAction}
use Rattle.case_tests.proofs.making.actions_of.Given as goal

abbrev pub invariant-loop-given : goal.invariant-loop-given
invariant-loop-given l =
    record {
      each : All (IsSidedAction l.size.split l.size.d l.size.atoms) l.actions;
      count : length l.actions ≤ l.given-index;
    }

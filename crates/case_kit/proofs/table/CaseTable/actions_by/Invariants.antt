use Rattle.std.proofs.Common.{◌≡◌, take, map, All}
use Rattle.task_kit.specs.Kept.{action_meaning}
use Rattle.task_kit.specs.Tasks.{IsAction}
use Rattle.case_kit.specs.Evaluated.{relaxed}
use Rattle.case_kit.proofs.table.CaseTable.actions_by.Given as goal

abbrev pub invariant-loop-place : goal.invariant-loop-place
invariant-loop-place l =
    record {
      is : map action_meaning l.made ≡ take l.place (relaxed l.way l.self l.cube).actions;
      in_range : All (λ action. IsAction l.self.atoms (action_meaning action)) l.made;
    }

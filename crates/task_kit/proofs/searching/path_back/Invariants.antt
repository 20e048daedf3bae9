use Rattle.std.proofs.Common.{ℕ, ◌<◌, List, ◌++◌, length}
use Rattle.task_kit.specs.Reached.{reached}
use Rattle.task_kit.specs.Searching.{IsPathBack}
use Rattle.task_kit.proofs.searching.path_back.Given as goal

abbrev pub invariant-loop-at : goal.invariant-loop-at
invariant-loop-at l =
    record {
      within : l.at < length (reached l.table).nodes;
      back : (rest : List ℕ) → IsPathBack (reached l.table).nodes l.at rest → IsPathBack (reached l.table).nodes l.place (l.back.items ++ rest);
    }

abbrev pub decreases-loop-at : goal.decreases-loop-at
decreases-loop-at l = l.at

use Rattle.std.proofs.Common.{◌≡◌}
use Rattle.std.specs.VecDeque.Iter.{deque_iter_rest}
use Rattle.mre_outside.specs.Kept.{kept_entries}
use Rattle.mre_outside.specs.Shelves.{first_under}
use Rattle.mre_outside.proofs.memory_shelf.put_under.Given as goal

abbrev pub invariant-loop-kept : goal.invariant-loop-kept
invariant-loop-kept l =
    first_under (kept_entries l.puts.items) l.name ≡ first_under (kept_entries (deque_iter_rest l.kept-iterator)) l.name

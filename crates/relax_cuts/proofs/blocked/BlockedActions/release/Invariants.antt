use Rattle.std.proofs.Common.{◌≡◌, length}
use Rattle.relax_cuts.specs.Blocked.{IsBelow}
use Rattle.relax_cuts.proofs.blocked.BlockedActions.release.Given as goal

abbrev pub invariant-loop : goal.invariant-loop
invariant-loop l =
    record {
      next : IsBelow (length l.self.before.items) l.next;
      lists : length l.self.last.items ≡ length l.initial.self.last.items;
      places : length l.self.before.items ≡ length l.initial.self.before.items;
    }

use Rattle.std.proofs.Common.{◌≡◌, length, arith, rules}
use Rattle.pddl_names.proofs.PathLemmas.{forest_all}
use Rattle.pddl_names.proofs.forests.forest_of.Goals as goal

pub returns : goal.returns
returns c =
    let size : c.len-start-end.result ≡ length c.args.ups.now.items = search rules in
    record {
      ok = forest_all c.args.ups.now.items c.loop-start.nodes.items c.loop-start.done.items c.loop-start.seen.items c.requires.ups c.loop-start.invariant.settled
          (λ v lt. c.loop-start.invariant.so_far v (omega (arith, lt, size, c.loop-start-test.false)));
    }

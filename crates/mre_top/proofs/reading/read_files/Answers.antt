use Rattle.std.proofs.Common.{◌+◌, arith, refl, subst, take, ℕ, Vec}
use Rattle.std.specs.declared.alloc.Global.{Global}
use Rattle.mre_top.specs.Reads.{StopsAt, reads}
use Rattle.mre_top.proofs.Calls.{stops_at, asked-read}
use Rattle.mre_top.proofs.reading.read_files.Goals as goal

pub returns-in-Err-clause-err : goal.returns-in-Err-clause-err
returns-in-Err-clause-err g c =
    let stopped = subst (λ held. StopsAt c.args.files.now c.loop-file.file held c.in-Err.refusal) c.loop-file.invariant.held c.in-Err.ensures.err in
    stops_at (Vec ℕ Global) c.args.files.now (g.H.Shelf.held c.args.shelf.now) c.loop-file.file (g.H.Shelf.asked c.args.shelf.now) (g.H.Shelf.asked c.loop-file.shelf) (g.H.Shelf.asked c.read_file.new.shelf)
    (omega arith) (_, c.loop-file.invariant.contents) c.loop-file.invariant.asked c.in-Err.refusal stopped c.in-Err.ensures.asked

pub returns-in-Err-push-clause-err : goal.returns-in-Err-push-clause-err
returns-in-Err-push-clause-err g c = (
  reads (take (c.loop-file.file + 1) c.args.files.now),
  (c.loop-file.file + 1, omega arith, refl),
  asked-read c.args.files.now c.loop-file.file (g.H.Shelf.asked c.args.shelf.now) (g.H.Shelf.asked c.loop-file.shelf) (g.H.Shelf.asked c.read_file.new.shelf) (omega arith) c.loop-file.invariant.asked c.in-Ok.ensures.asked,
)

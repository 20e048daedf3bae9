use Rattle.std.proofs.Common.{◌≡◌, ℕ, ◌+◌, ◌<◌, List, [], ◌∷◌, length, drop, sym, ap, subst, ◌∙◌, arith}
use Rattle.std.specs.Prelude.{slice_range}
use Rattle.std.proofs.lemmas.Result.{err_from_is_err_and}
use Rattle.pddl_text.specs.PlanReading.{rows_from}
use Rattle.pddl_text.specs.Plans.{rows_of}
use Rattle.pddl_text.proofs.RowLemmas.{IsOneRow, row_none, row_more, row_at, row_last, rows_stop}
use Rattle.pddl_text.proofs.plan.read_rows.Goals as goal
use Rattle.pddl_text.proofs.plan.read_rows.Goals.{then-byte-eq10+in_ok-take_row, else-byte-eq10}

pub returns-in_err-take_row : goal.returns-in_err-take_row
returns-in_err-take_row c =
    let bytes = c.args.bytes.now in
    let loop = c.loop-place in
    let inside : loop.place < length bytes = omega arith in
    let cut = row_at bytes loop.first loop.place loop.invariant.within inside c.if-byte-eq10.true loop.invariant.row in
    let out = err_from_is_err_and c.from_residual.result c.from_residual.ensures.1 in
    rw (out.1, out.2) (rows_stop c.in_err-take_row.field-0.0
    (λ (rows : List (List ℕ)). rows_from loop.lines loop.line (slice_range bytes loop.first loop.place ∷ rows)) (rows_of (drop (loop.place + 1) bytes)) _
    (ap (rows_from loop.lines loop.line) (sym cut) ∙ loop.invariant.read) c.in_err-take_row.ensures.fault)

pub loop-place-preserved : goal.loop-place-preserved
loop-place-preserved c =
    let bytes = c.args.bytes.now in
    let loop = c.loop-place in
    let inside : loop.place < length bytes = omega arith in
    elim c.if-byte-eq10.branch [
      | then-byte-eq10+in_ok-take_row w ↦
          (let cut = row_at bytes loop.first loop.place loop.invariant.within inside w.if-byte-eq10.true loop.invariant.row in
          rw (w.first-is, w.lines-is, w.line-is) (record {
            within = omega arith;
            row = row_none bytes (loop.place + 1);
            read = sym (w.in_ok-take_row.ensures.ok (rows_of (drop (loop.place + 1) bytes))) ∙ ap (rows_from loop.lines loop.line) (sym cut) ∙ loop.invariant.read;
            line = omega arith;
          }))
      | else-byte-eq10 w ↦
          rw (w.first-is, w.lines-is, w.line-is) (record {
            within = omega arith;
            row = row_more bytes loop.first loop.place loop.invariant.within inside w.if-byte-eq10.false loop.invariant.row;
            read = loop.invariant.read;
            line = omega arith;
          })
    ]

pub returns-in-Ok : goal.returns-in-Ok
returns-in-Ok c =
    let bytes = c.args.bytes.now in
    let loop = c.loop-place in
    let place-is : loop.place ≡ length bytes = omega arith in
    let cut = row_last bytes loop.first (subst (IsOneRow bytes loop.first) place-is loop.invariant.row) in
    sym loop.invariant.read ∙ ap (rows_from loop.lines loop.line) cut ∙ c.in-Ok.ensures.ok []

pub returns-in-Err : goal.returns-in-Err
returns-in-Err c =
    let bytes = c.args.bytes.now in
    let loop = c.loop-place in
    let place-is : loop.place ≡ length bytes = omega arith in
    let cut = row_last bytes loop.first (subst (IsOneRow bytes loop.first) place-is loop.invariant.row) in
    rows_stop c.in-Err.stop (λ (rows : List (List ℕ)). rows_from loop.lines loop.line (slice_range bytes loop.first (length bytes) ∷ rows)) [] _
    (ap (rows_from loop.lines loop.line) (sym cut) ∙ loop.invariant.read) c.in-Err.ensures.fault

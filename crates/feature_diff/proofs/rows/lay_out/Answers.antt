use Rattle.std.proofs.Common.{◌≡◌, ◌∙◌, ◌++◌, [], map, sym, ap, subst, append-nil}
use Rattle.feature_diff.specs.Rows.{AreRows}
use Rattle.feature_diff.proofs.RowLemmas.{row_of, entries_rows}
use Rattle.feature_diff.proofs.rows.lay_out.Goals as goal

pub returns : goal.returns
returns c =
    let left : c.loop-form.form-iterator ≡ [] = c.in-None.ensures.steps.0 in
    let same : c.loop-form.rows ≡ map row_of c.args.table.entries = sym (append-nil c.loop-form.rows) ∙ ap (λ rest. c.loop-form.rows ++ map row_of rest) (sym left) ∙ c.loop-form.invariant in
    record { ok = λ planner user known. subst (AreRows planner user) (sym same) (entries_rows c.args.table c.into_iter-form-iterator.ensures.into_iter_gives.5 planner user known) }

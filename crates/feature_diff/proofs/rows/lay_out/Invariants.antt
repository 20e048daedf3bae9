use Rattle.std.proofs.Common.{◌≡◌, ◌++◌, map}
use Rattle.feature_diff.proofs.RowLemmas.{row_of}
use Rattle.feature_diff.proofs.rows.lay_out.Given as goal

abbrev pub invariant-loop-form : goal.invariant-loop-form
invariant-loop-form l = l.rows ++ map row_of l.form-iterator ≡ map row_of l.fn.table.entries

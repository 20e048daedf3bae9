use Rattle.std.proofs.Common.{◌≡◌, drop}
use Rattle.std.specs.BTreeMap.{get}
use Rattle.model_kit.specs.declared.values.FunctionTerm.{FunctionTerm}
use Rattle.model_kit.specs.Places.{value_of}
use Rattle.model_kit.specs.Judging.{term_cmp}
use Rattle.model_kit.proofs.values.value_table.Given as goal

abbrev pub invariant-loop-place : goal.invariant-loop-place
invariant-loop-place l = (term : FunctionTerm) → get term_cmp l.table term ≡ value_of (drop l.place l.values) term.function term.objects

use Rattle.std.proofs.Common.{◌≡◌, drop}
use Rattle.std.specs.List.{list_all}
use Rattle.model_kit.specs.Words.{is_no_total}
use Rattle.model_kit.proofs.checking.has_no_total.Given as goal

abbrev pub invariant-loop-place : goal.invariant-loop-place
invariant-loop-place l = list_all is_no_total (drop l.place l.functions) ≡ list_all is_no_total l.functions

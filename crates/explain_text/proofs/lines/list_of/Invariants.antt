use Rattle.std.proofs.Common.{◌≡◌}
use Rattle.mre_base.specs.Before.{numbers}
use Rattle.explain_text.specs.Lines.{list_lines}
use Rattle.explain_text.proofs.lines.list_of.Given as goal

abbrev pub invariant-loop-place : goal.invariant-loop-place
invariant-loop-place l = l.lines ≡ list_lines l.head l.words l.differences (numbers l.place l.chosen)

use Rattle.std.proofs.Common.{◌≡◌, ◌*◌, false, take, drop}
use Rattle.std.specs.List.{list_any}
use Rattle.case_kit.specs.declared.action.CaseAction.{CaseAction}
use Rattle.case_kit.specs.Parts.{touches}
use Rattle.cow_models.proofs.making.touches_row.Given as goal

abbrev pub invariant-loop-at : goal.invariant-loop-at
invariant-loop-at l = list_any (λ (action : CaseAction). touches action l.place) (take l.at (take 16 (drop (16 * l.row) l.table.actions))) ≡ false

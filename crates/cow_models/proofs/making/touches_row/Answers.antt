use Rattle.std.proofs.Common.{◌≡◌, ◌*◌, ◌<◌, take, drop, length, sym, ap, ◌∙◌, arith}
use Rattle.std.specs.List.{list_any}
use Rattle.std.proofs.Math.Seq.{take-length}
use Rattle.mre_base.proofs.Listed.{none_take_item}
use Rattle.case_kit.specs.declared.action.CaseAction.{CaseAction}
use Rattle.case_kit.specs.Parts.{touches}
use Rattle.case_kit.proofs.ChildLemmas.{one_passes}
use Rattle.cow_models.proofs.RowLemmas.{in_row, length-row}
use Rattle.cow_models.proofs.making.touches_row.Goals as goal

pub returns-then-touches : goal.returns-then-touches
returns-then-touches c =
    let few : c.loop-at.at < 16 = omega (arith, c.loop-at-test.true, c.row_length-at-end.ensures) in
    one_passes (λ (a : CaseAction). touches a c.args.place) (take 16 (drop (16 * c.args.row) c.args.table.now.actions)) c.loop-at.at c.item.result.now
    (in_row c.args.table.now.actions (16 * c.args.row) c.loop-at.at c.item.result.now few c.item.ensures) (sym c.touches.ensures ∙ c.if-touches.true)

pub loop-at-preserved : goal.loop-at-preserved
loop-at-preserved c =
    let few : c.loop-at.at < 16 = omega (arith, c.loop-at-test.true, c.row_length-at-end.ensures) in
    none_take_item (λ (a : CaseAction). touches a c.args.place) (take 16 (drop (16 * c.args.row) c.args.table.now.actions)) c.loop-at.at c.item.result.now
    (in_row c.args.table.now.actions (16 * c.args.row) c.loop-at.at c.item.result.now few c.item.ensures) (sym c.touches.ensures ∙ c.if-touches.false) c.loop-at.invariant

pub returns : goal.returns
returns c =
    let xs = take 16 (drop (16 * c.args.row) c.args.table.now.actions) in
    let full : c.loop-at.at ≡ length xs = omega (arith, c.loop-at-test.false, c.loop-at.auto.at-end, c.row_length-at-end.ensures, c.len.ensures, length-row c.args.table.now.actions c.args.row) in
    sym c.loop-at.invariant ∙ ap (λ n. list_any (λ (a : CaseAction). touches a c.args.place) (take n xs)) full ∙ ap (list_any (λ (a : CaseAction). touches a c.args.place)) (take-length xs)

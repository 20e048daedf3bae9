use Rattle.std.proofs.Common.{sym, ◌∙◌}
use Rattle.case_kit.specs.declared.cases.Case.{Case}
use Rattle.case_kit.specs.Parts.{speaks_of}
use Rattle.mre_base.proofs.Listed.{none_take_item}
use Rattle.case_kit.proofs.ChildLemmas.{one_passes}
use Rattle.case_kit.proofs.action.any_speaks_of.Goals as goal

pub returns-then-speaks_of : goal.returns-then-speaks_of
returns-then-speaks_of c =
    one_passes (λ (case : Case). speaks_of case.when c.args.number) c.args.cases.now c.loop-place.place c.item.result.now c.item.ensures (sym c.speaks_of.ensures ∙ c.if-speaks_of.true)

pub loop-place-preserved : goal.loop-place-preserved
loop-place-preserved c =
    none_take_item (λ (case : Case). speaks_of case.when c.args.number) c.args.cases.now c.loop-place.place c.item.result.now c.item.ensures (sym c.speaks_of.ensures ∙ c.if-speaks_of.false) c.loop-place.invariant

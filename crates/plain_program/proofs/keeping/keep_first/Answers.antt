use Rattle.std.specs.Prelude.{◌≡◌}
use Rattle.mre_base.proofs.Options.{of_some}
use Rattle.task_kit.specs.Tasks.{cost_of}
use Rattle.case_kit.specs.Members.{member}
use Rattle.table_explanations.specs.Explanations.{IsCheapest}
use Rattle.plain_program.proofs.BestLemmas.{narrowed, keeps_later, keeps_new}
use Rattle.plain_program.proofs.keeping.keep_first.Goals as goal

pub returns-then-not-is_before : goal.returns-then-not-is_before
returns-then-not-is_before c =
    let table = c.args.table.now in
    let plan = c.args.plan.now in
    keeps_later table plan c.args.best c.args.told.now
    (narrowed table plan c.ones.result c.ones.ensures c.args.told.now c.args.best.told c.requires.within c.requires.best_within table.sound.few_differences _ c.if-not-is_before.ensures.narrow)

pub returns-in-Some : goal.returns-in-Some
returns-in-Some c =
    let table = c.args.table.now in
    let plan = c.args.plan.now in
    let told = c.args.told.now in
    keeps_new table plan c.args.best _ told c.copy.ensures
    (narrowed table plan c.ones.result c.ones.ensures told c.args.best.told c.requires.within c.requires.best_within table.sound.few_differences _ c.if-not-is_before.ensures.narrow)
    (of_some _ c.in-Some.cost (λ price. IsCheapest (member table told) plan × (price ≡ cost_of (member table told) plan)) c.in-Some.is c.in_ok-cost_if_complete.ensures.complete)

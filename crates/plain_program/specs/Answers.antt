-- The answers of the plain program: a cheapest valid list, if the plan isn't one, and the first
-- complete set with the plan's cost after it.
use Rattle.std.specs.Prelude.{ℕ, ◌≡◌, ◌<◌, List}
use Rattle.task_kit.specs.Tasks.{TaskMeaning, cost_of}
use Rattle.case_kit.specs.Members.{member}
use Rattle.table_explanations.specs.Explanations.{Reconciliation, IsCheapest, IsMCE}
use Rattle.plain_program.specs.declared.answer.Foil.{Foil}
use Rattle.plain_program.specs.declared.answer.FirstComplete.{FirstComplete}

-- the list is a cheapest valid list of the task with its cost, and costs less than the plan
pub record IsCheaper (task : TaskMeaning) (plan : List ℕ) (foil : Foil) : Type 0 where
  pub cheapest : IsCheapest task foil.list
  pub costs : foil.cost ≡ cost_of task foil.list
  pub less : foil.cost < cost_of task plan

-- the set is the MCE, and the plan has this cost after it
pub record IsFirstComplete (q : Reconciliation) (first : FirstComplete) : Type 0 where
  pub mce : IsMCE q first.told
  pub costs : first.cost ≡ cost_of (member q.table first.told) q.plan

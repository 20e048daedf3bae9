-- How the first complete set is found: a set replaces the best one so far if it is complete and
-- comes before it.
use Rattle.std.specs.Prelude.{ℕ, ◌≡◌, ◌⊎◌, true}
use Rattle.mre_base.specs.Before.{is_before}
use Rattle.cube_kit.specs.Cubes.{Told}
use Rattle.task_kit.specs.Tasks.{cost_of}
use Rattle.case_kit.specs.Members.{member}
use Rattle.table_explanations.specs.Explanations.{Reconciliation, IsComplete}
use Rattle.plain_program.specs.declared.answer.FirstComplete.{FirstComplete}

-- the set is complete, and the plan has this cost after it
abbrev pub IsPriced : Reconciliation → Told → ℕ → Type 0
IsPriced q told price =
    IsComplete q told × (price ≡ cost_of (member q.table told) q.plan)

-- the best set so far is kept, or another set that is complete and comes before it
abbrev pub Keeps : Reconciliation → FirstComplete → Told → FirstComplete → Type 0
Keeps q best told kept =
    ((kept ≡ best) × ¬ (IsComplete q told × (is_before q.weights told best.told ≡ true)))
    ⊎ ((kept.told ≡ told) × (is_before q.weights told best.told ≡ true)
    × IsPriced q told kept.cost)

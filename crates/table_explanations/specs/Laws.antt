-- The laws of explanations over the members of a case table.
use Rattle.std.specs.Prelude.{ℕ, ◌≡◌, List}
use Rattle.cube_kit.specs.Cubes.{Told}
use Rattle.case_kit.specs.declared.table.CaseTable.{CaseTable}
use Rattle.table_explanations.specs.Explanations.{Reconciliation, IsMCE, IsMME, IsWeighed, even}

-- no two sets have the property
abbrev pub AtMostOne : (Told → Type 0) → Type 0
AtMostOne P = (a b : Told) → P a → P b → a ≡ b

-- where each difference has its weight, there are never two MCEs and never two MMEs; and each
-- difference has its weight where all of them weigh 1
pub record OnceLaw : Type 0 where
  pub mce : (q : Reconciliation) → IsWeighed q → AtMostOne (IsMCE q)
  pub mme : (q : Reconciliation) → IsWeighed q → AtMostOne (IsMME q)
  pub even : (table : CaseTable) (plan : List ℕ) → IsWeighed (even table plan)

-- Lists of ground actions in numbers, and what it means that lists of numbers run in a table as the
-- lists of ground actions run in the models.
use Rattle.std.specs.Prelude.{ℕ, ◌≡◌, ◌↔◌, List, [], ◌∷◌, Some, All, Contains, slice_get}
use Rattle.cube_kit.specs.Cubes.{Told}
use Rattle.model_kit.specs.declared.atom.GroundAtom.{GroundAtom}
use Rattle.model_kit.specs.declared.action.GroundAction.{GroundAction}
use Rattle.model_kit.specs.Vocabulary.{IsGroundAction}
use Rattle.model_kit.specs.Runs as named
use Rattle.task_kit.specs.Tasks as numbered
use Rattle.task_kit.specs.Bounds.{HasNoCheaper}
use Rattle.case_kit.specs.declared.table.CaseTable.{CaseTable}
use Rattle.case_kit.specs.Members.{member}
use Rattle.named_tables.specs.Models.{Models, after_told}
use Rattle.named_tables.specs.Reachable.{Reachable, Atom, Action}

-- the atoms and the actions are those that may be reached
pub record ListsReachable (models : Models) (atoms : List GroundAtom)
    (actions : List GroundAction) : Type 0 where
  pub each_atom : (atom : GroundAtom) → Contains atoms atom ↔ Reachable models (Atom atom)
  pub each_action : (action : GroundAction)
      → Contains actions action ↔ Reachable models (Action action)

-- the numbers are those of the plan's actions, step by step
abbrev pub AreNumbersOf : List GroundAction → List ℕ → List GroundAction → Type 0
AreNumbersOf actions [] [] = Unit {0}
AreNumbersOf actions (number ∷ list) (action ∷ plan) =
    (slice_get actions number ≡ Some action) × AreNumbersOf actions list plan
AreNumbersOf actions [] (action ∷ plan) = ⊥
AreNumbersOf actions (number ∷ list) [] = ⊥

-- the numbers are a valid list of the table's member, and no valid list there costs less
abbrev pub IsCheapestIn : CaseTable → Told → List ℕ → Type 0
IsCheapestIn table told list =
    numbered.IsValid (member table told) list
    × HasNoCheaper (member table told) (numbered.cost_of (member table told) list)

-- after these differences, lists of ground actions and their numbers are alike: every valid list is
-- one of listed actions, a list is valid exactly where its numbers are, both cost the same, every
-- valid list of numbers is that of a list of ground actions, and what is cheapest is cheapest
pub record RunsAsNamed (models : Models) (actions : List GroundAction) (table : CaseTable)
    (told : Told) : Type 0 where
  pub listed : (plan : List GroundAction) → All (IsGroundAction models.words) plan
      → named.IsValid (after_told models told) plan
      → (list : List ℕ) × AreNumbersOf actions list plan
  pub valid : (plan : List GroundAction) (list : List ℕ) → AreNumbersOf actions list plan
      → named.IsValid (after_told models told) plan ↔ numbered.IsValid (member table told) list
  pub cost : (plan : List GroundAction) (list : List ℕ) → AreNumbersOf actions list plan
      → named.cost (after_told models told) plan ≡ numbered.cost_of (member table told) list
  pub of_names : (list : List ℕ) → numbered.IsValid (member table told) list
      → (plan : List GroundAction) × AreNumbersOf actions list plan
      × All (IsGroundAction models.words) plan
  pub cheapest : (plan : List GroundAction) (list : List ℕ) → AreNumbersOf actions list plan
      → named.IsCheapest models.words (after_told models told) plan ↔ IsCheapestIn table told list

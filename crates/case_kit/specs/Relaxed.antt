-- The two tasks of a cube, described by its members. The permissive task has what helps a list to
-- be valid in some member and what hinders it in every member, at the least costs; the restrictive
-- task is the reverse.
use Rattle.std.specs.Prelude.{ℕ, ◌≡◌, ◌≤◌, ◌↔◌, true, Option, None, Some, length}
use Rattle.std.specs.FinSet as set
use Rattle.cube_kit.specs.Cubes.{Told, CubeMeaning, is_member}
use Rattle.task_kit.specs.Tasks.{Numbers, ActionMeaning, TaskMeaning, action_at}
use Rattle.case_kit.specs.declared.table.CaseTable.{CaseTable}
use Rattle.case_kit.specs.Members.{member}

-- some member of the cube has the property, each member has it
abbrev pub SomeMember : CubeMeaning → (Told → Type 0) → Type 0
SomeMember cube IsSo = (told : Told) × (is_member cube told ≡ true) × IsSo told

abbrev pub EveryMember : CubeMeaning → (Told → Type 0) → Type 0
EveryMember cube IsSo = (told : Told) → is_member cube told ≡ true → IsSo told

-- the set has the numbers that some member has, the numbers that each member has
abbrev pub AreOfSome : CubeMeaning → (Told → Numbers) → Numbers → Type 0
AreOfSome cube of_member numbers =
    (k : ℕ) → (set.contains numbers k ≡ true)
    ↔ SomeMember cube (λ told. set.contains (of_member told) k ≡ true)

abbrev pub AreOfEvery : CubeMeaning → (Told → Numbers) → Numbers → Type 0
AreOfEvery cube of_member numbers =
    (k : ℕ) → (set.contains numbers k ≡ true)
    ↔ EveryMember cube (λ told. set.contains (of_member told) k ≡ true)

-- the first cost is at most the second; an absent cost is above every number
abbrev pub IsNoDearer : Option ℕ → Option ℕ → Type 0
IsNoDearer one None = Unit {0}
IsNoDearer None (Some other) = ⊥
IsNoDearer (Some one) (Some other) = one ≤ other

-- some member has this cost, and no member has a smaller one; it is absent only if it is absent in
-- each member
pub record IsLeastCost (cube : CubeMeaning) (of_member : Told → Option ℕ)
    (cost : Option ℕ) : Type 0 where
  pub some : SomeMember cube (λ told. of_member told ≡ cost)
  pub least : EveryMember cube (λ told. IsNoDearer cost (of_member told))

-- some member has this cost, and no member has a greater one; it is absent if it is absent in some
-- member
pub record IsGreatestCost (cube : CubeMeaning) (of_member : Told → Option ℕ)
    (cost : Option ℕ) : Type 0 where
  pub some : SomeMember cube (λ told. of_member told ≡ cost)
  pub greatest : EveryMember cube (λ told. IsNoDearer (of_member told) cost)

-- an action of the permissive task, given the action of each member
pub record IsPermissiveAction (cube : CubeMeaning) (of_member : Told → ActionMeaning)
    (action : ActionMeaning) : Type 0 where
  pub pre : AreOfEvery cube (λ told. (of_member told).pre) action.pre
  pub add : AreOfSome cube (λ told. (of_member told).add) action.add
  pub del : AreOfEvery cube (λ told. (of_member told).del) action.del
  pub cost : IsLeastCost cube (λ told. (of_member told).cost) action.cost

-- an action of the restrictive task
pub record IsRestrictiveAction (cube : CubeMeaning) (of_member : Told → ActionMeaning)
    (action : ActionMeaning) : Type 0 where
  pub pre : AreOfSome cube (λ told. (of_member told).pre) action.pre
  pub add : AreOfEvery cube (λ told. (of_member told).add) action.add
  pub del : AreOfSome cube (λ told. (of_member told).del) action.del
  pub cost : IsGreatestCost cube (λ told. (of_member told).cost) action.cost

-- the task is the permissive task of the cube
pub record IsPermissive (table : CaseTable) (cube : CubeMeaning) (task : TaskMeaning) : Type 0 where
  pub atoms : task.atoms ≡ table.atoms
  pub start : AreOfSome cube (λ told. (member table told).start) task.start
  pub goal : AreOfEvery cube (λ told. (member table told).goal) task.goal
  pub actions : length task.actions ≡ length table.actions
  pub each : (action : ℕ) → IsPermissiveAction cube (λ told. action_at (member table told)
      action) (action_at task action)

-- the task is the restrictive task of the cube
pub record IsRestrictive (table : CaseTable) (cube : CubeMeaning)
    (task : TaskMeaning) : Type 0 where
  pub atoms : task.atoms ≡ table.atoms
  pub start : AreOfEvery cube (λ told. (member table told).start) task.start
  pub goal : AreOfSome cube (λ told. (member table told).goal) task.goal
  pub actions : length task.actions ≡ length table.actions
  pub each : (action : ℕ) → IsRestrictiveAction cube (λ told. action_at (member table told)
      action) (action_at task action)

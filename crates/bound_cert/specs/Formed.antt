-- The form of the states of a bound proof, which holds before it is checked: they have the task's
-- width and are in order, and the cuts are in range.
use Rattle.std.specs.Prelude.{ℕ, ◌+◌, ◌^◌, ◌≡◌, ◌≤◌, ◌<◌, Bool, true, List, [], length, Some}
use Rattle.std.specs.Prelude.{slice_get, All}
use Rattle.mre_base.specs.Before.{is_earlier_list}
use Rattle.mre_base.specs.Sets.{BitSet, numbers_below}
use Rattle.task_kit.specs.declared.cut.Cut.{Cut}
use Rattle.task_kit.specs.Tasks.{TaskMeaning}
use Rattle.task_kit.specs.Cuts.{most}
use Rattle.bound_cert.specs.declared.proof.BoundState.{BoundState}
use Rattle.bound_cert.specs.declared.proof.How.{How}
use Rattle.bound_cert.specs.declared.proof.How.TheVariants as hows
use Rattle.bound_cert.specs.Lines.{lines}

-- the ascending list of the first set is before that of the second
abbrev pub is_listed_before : BitSet → BitSet → Bool
is_listed_before one two =
    is_earlier_list (numbers_below one.width one.members) (numbers_below two.width two.members)

-- each state is before each later one
abbrev pub IsAscending : List BoundState → Type 0
IsAscending states =
    (place later : ℕ) (s t : BoundState) → slice_get states place ≡ Some s
    → slice_get states later ≡ Some t → place < later → is_listed_before s.state t.state ≡ true

-- the cuts of a state
abbrev pub cuts_of : How → List Cut
cuts_of hows.Expanded = []
cuts_of (hows.Pruned cuts) = cuts

-- the cut's weight is in its range, and it lists atoms of the task
pub record IsInRange (atoms : ℕ) (cut : Cut) : Type 0 where
  pub weight : cut.weight ≤ most
  pub lacks : All (λ atom. atom < atoms) cut.lacks

-- the states have the task's width and ascend strictly, their cuts are in range, and there are
-- fewer than 2^31 lines of states and cuts
pub record IsFormed (task : TaskMeaning) (states : List BoundState) : Type 0 where
  pub wide : All (λ s. s.state.width ≡ task.atoms + 1) states
  pub ascending : IsAscending states
  pub cuts : All (λ s. All (IsInRange task.atoms) (cuts_of s.how)) states
  pub few : length (lines task.atoms states) < 2 ^ 31

-- The working memory in which bound proofs of a task are checked.
use Rattle.std.specs.Prelude.{ℕ, ◌+◌, ◌≡◌, ◌≤◌, ◌<◌, true, cond, List, length, slice_index}
use Rattle.mre_base.specs.Sets.{set_below}
use Rattle.task_kit.specs.Tasks.{Numbers, TaskMeaning, as_bits, price}
use Rattle.task_kit.specs.Cuts.{CutMeaning, counts, weight_of}
use Rattle.bound_cert.specs.declared.scratch.Scratch.{Scratch}

-- every number below a bound
abbrev pub all_below : ℕ → Numbers
all_below bound = set_below (λ _. true) bound

-- the scratch was made for the task
pub record IsScratchOf (task : TaskMeaning) (scratch : Scratch) : Type 0 where
  pub into : scratch.into.width ≡ task.atoms + 1
  pub among : scratch.among.width ≡ task.atoms + 1
  pub all : scratch.all ≡ as_bits task (all_below task.atoms)
  pub charged : length scratch.charged.items ≡ length task.actions

-- the charge of a cut on an action
abbrev pub charge_by : TaskMeaning → CutMeaning → ℕ → ℕ
charge_by task cut action = cond (counts task action cut) cut.weight 0

-- the note for each action is the sum of the charges of the cuts on it, and at most its cost
pub record AreCharged (task : TaskMeaning) (cuts : List CutMeaning)
    (charged : List ℕ) : Type 0 where
  pub noted : (action : ℕ) → action < length task.actions
      → slice_index charged action ≡ weight_of (counts task action) cuts
  pub within : (action : ℕ) → weight_of (counts task action) cuts ≤ price task action

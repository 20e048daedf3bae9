-- The meaning of a task that keeps its actions as lists of numbers, and of its cuts.
use Rattle.std.specs.Prelude.{ℕ, not, List, map}
use Rattle.std.specs.FinSet as set
use Rattle.mre_base.specs.Sets.{BitSet, set_below}
use Rattle.task_kit.specs.declared.action.TaskAction.{TaskAction}
use Rattle.task_kit.specs.declared.cut.Cut.{Cut}
use Rattle.task_kit.specs.Cuts.{CutMeaning}
use Rattle.task_kit.specs.Tasks.{Numbers, ActionMeaning, TaskMeaning, set_of}

-- the meaning of an action: the sets of its listed atoms
abbrev pub action_meaning : TaskAction → ActionMeaning
action_meaning action =
    record {
      pre = set_of action.pre;
      add = set_of action.add;
      del = set_of action.del;
      cost = action.cost;
    }

-- the meaning of a task
abbrev pub task_meaning : ℕ → BitSet → BitSet → List TaskAction → TaskMeaning
task_meaning atoms start goal actions =
    record {
      atoms = atoms;
      start = start.members;
      goal = goal.members;
      actions = map action_meaning
          actions;
    }

-- the numbers below the bound but the listed ones
abbrev pub all_but : ℕ → List ℕ → Numbers
all_but bound lacks = set_below (λ k. not (set.contains (set_of lacks) k)) bound

-- the meaning of a cut in a task with this number of atoms
abbrev pub cut_meaning : ℕ → Cut → CutMeaning
cut_meaning atoms cut = record { weight = cut.weight; among = all_but atoms cut.lacks }

-- the meaning of the cuts of a state in a task with this number of atoms
abbrev pub cuts_meaning : ℕ → List Cut → List CutMeaning
cuts_meaning atoms cuts = map (cut_meaning atoms) cuts

-- Two models that differ in the knowledge of an action: the user knows a jump that doesn't exist.
use Rattle.std.specs.Prelude.{List, [], ◌∷◌, refl}
use Rattle.model_kit.specs.declared.model.Model.{Model}
use Rattle.model_kit.specs.Places.{Place, Knows}
use Rattle.model_kit.specs.Explanations.{Task}
use Rattle.model_kit.specs.Laws.{task_of}
use Rattle.model_examples.specs.Build.{facts, step, plain}
use Rattle.model_examples.specs.Belief.{words}

-- walk needs (p) and costs 2; jump needs (q), would cost 1 and is unknown; each makes (g) true
abbrev pub planner : Model
planner = record {
  words = words;
  init = facts (0 ∷ 1 ∷ []);
  goal = facts (2 ∷ []);
  schemas = plain (0 ∷ []) 2 2 ∷ plain (1 ∷ []) 2 1 ∷ [];
  values = [];
  unknown = 1 ∷ [];
  sound = refl;
}

-- jump is known
abbrev pub user : Model
user = record {
  words = words;
  init = facts (0 ∷ 1 ∷ []);
  goal = facts (2 ∷ []);
  schemas = plain (0 ∷ []) 2 2 ∷ plain (1 ∷ []) 2 1 ∷ [];
  values = [];
  unknown = [];
  sound = refl;
}

-- 1 action jump does not exist
abbrev pub places : List Place
places = Knows 1 ∷ []

-- the plan is (walk)
abbrev pub task : Task
task = task_of words planner user places (1 ∷ []) (step 0 ∷ [])

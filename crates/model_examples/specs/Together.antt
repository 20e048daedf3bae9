-- Two models where two further facts let a cheaper list run, but only together.
use Rattle.std.specs.Prelude.{ℕ, List, [], ◌∷◌, codes, refl}
use Rattle.model_kit.specs.declared.vocabulary.Vocabulary.{Vocabulary}
use Rattle.model_kit.specs.declared.model.Model.{Model}
use Rattle.model_kit.specs.Places.{Place, Init, Cost}
use Rattle.model_kit.specs.Explanations.{Task}
use Rattle.model_kit.specs.Laws.{task_of}
use Rattle.model_examples.specs.Build.{word, one_type, fact, facts, step, plain}

-- predicates 0 (p), 1 (x), 2 (y), 3 (g); actions 0 (walk), 1 (jump)
abbrev pub words : Vocabulary
words = record {
  types = one_type;
  objects = [];
  predicates =
      word (codes "p") [] ∷ word (codes "x") [] ∷ word (codes "y") [] ∷ word (codes "g") [] ∷ [];
  functions = [];
  actions = word (codes "walk") [] ∷ word (codes "jump") [] ∷ [];
  sound = refl;
}

-- walk needs (p) and costs 2; jump needs (x) and (y) and costs 3; each makes (g) true
abbrev pub planner : Model
planner = record {
  words = words;
  init = facts (0 ∷ 1 ∷ 2 ∷ []);
  goal = facts (3 ∷ []);
  schemas = plain (0 ∷ []) 3 2 ∷ plain (1 ∷ 2 ∷ []) 3 3 ∷ [];
  values = [];
  unknown = [];
  sound = refl;
}

-- neither (x) nor (y) is true at first, and jump costs 1
abbrev pub user : Model
user = record {
  words = words;
  init = facts (0 ∷ []);
  goal = facts (3 ∷ []);
  schemas = plain (0 ∷ []) 3 2 ∷ plain (1 ∷ 2 ∷ []) 3 1 ∷ [];
  values = [];
  unknown = [];
  sound = refl;
}

-- 1 initially (x) is true; 2 initially (y) is true; 3 action jump costs 3, not 1
abbrev pub places : List Place
places = Init (fact 1 []) ∷ Init (fact 2 []) ∷ Cost 1 ∷ []

-- the plan is (walk)
abbrev pub task : Task
task = task_of words planner user places (1 ∷ 1 ∷ 1 ∷ []) (step 0 ∷ [])

-- all sets but that of the two facts
abbrev pub complete : List (List ℕ)
complete = [] ∷ (1 ∷ []) ∷ (2 ∷ []) ∷ (3 ∷ []) ∷ (1 ∷ 3 ∷ []) ∷ (2 ∷ 3 ∷ []) ∷ (1 ∷ 2 ∷ 3 ∷ []) ∷ []

-- the sets with the cost
abbrev pub monotonic : List (List ℕ)
monotonic = (3 ∷ []) ∷ (1 ∷ 3 ∷ []) ∷ (2 ∷ 3 ∷ []) ∷ (1 ∷ 2 ∷ 3 ∷ []) ∷ []

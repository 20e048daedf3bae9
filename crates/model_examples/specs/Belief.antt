-- Two models that differ in one initial fact: the user believes in one that isn't true.
use Rattle.std.specs.Prelude.{List, [], ◌∷◌, codes, refl}
use Rattle.model_kit.specs.declared.vocabulary.Vocabulary.{Vocabulary}
use Rattle.model_kit.specs.declared.model.Model.{Model}
use Rattle.model_kit.specs.Places.{Place, Init}
use Rattle.model_kit.specs.Explanations.{Task}
use Rattle.model_kit.specs.Laws.{task_of}
use Rattle.model_examples.specs.Build.{word, one_type, fact, facts, step, plain}

-- predicates 0 (p), 1 (q), 2 (g); actions 0 (walk), 1 (jump)
abbrev pub words : Vocabulary
words = record {
  types = one_type;
  objects = [];
  predicates = word (codes "p") [] ∷ word (codes "q") [] ∷ word (codes "g") [] ∷ [];
  functions = [];
  actions = word (codes "walk") [] ∷ word (codes "jump") [] ∷ [];
  sound = refl;
}

-- walk needs (p) and costs 2; jump needs (q) and costs 1; each makes (g) true
abbrev pub planner : Model
planner = record {
  words = words;
  init = facts (0 ∷ []);
  goal = facts (2 ∷ []);
  schemas = plain (0 ∷ []) 2 2 ∷ plain (1 ∷ []) 2 1 ∷ [];
  values = [];
  unknown = [];
  sound = refl;
}

-- (q) is true at first too
abbrev pub user : Model
user = record {
  words = words;
  init = facts (0 ∷ 1 ∷ []);
  goal = facts (2 ∷ []);
  schemas = plain (0 ∷ []) 2 2 ∷ plain (1 ∷ []) 2 1 ∷ [];
  values = [];
  unknown = [];
  sound = refl;
}

-- 1 initially (q) is not true
abbrev pub places : List Place
places = Init (fact 1 []) ∷ []

-- the plan is (walk)
abbrev pub task : Task
task = task_of words planner user places (1 ∷ []) (step 0 ∷ [])

-- Two models that differ in three places: in the user's a jump is cheap and needs nothing.
use Rattle.std.specs.Prelude.{ℕ, List, [], ◌∷◌, codes, refl}
use Rattle.model_kit.specs.declared.vocabulary.Vocabulary.{Vocabulary}
use Rattle.model_kit.specs.declared.model.Model.{Model}
use Rattle.model_kit.specs.Places.{Place, Init, Pre, Cost, Meaning, meaning}
use Rattle.model_kit.specs.Differences.{AreDifferences, patched}
use Rattle.model_kit.specs.Explanations.{Task}
use Rattle.model_kit.specs.Laws.{task_of}
use Rattle.model_examples.specs.Build.{word, one_type, fact, facts, bare, step, plain}
use Rattle.model_examples.specs.Told.{of}

-- predicates 0 (p), 1 (r), 2 (g); actions 0 (walk), 1 (jump)
abbrev pub words : Vocabulary
words = record {
  types = one_type;
  objects = [];
  predicates = word (codes "p") [] ∷ word (codes "r") [] ∷ word (codes "g") [] ∷ [];
  functions = [];
  actions = word (codes "walk") [] ∷ word (codes "jump") [] ∷ [];
  sound = refl;
}

-- walk needs (p) and costs 2; jump needs (r) and costs 3; each makes (g) true
abbrev pub planner : Model
planner = record {
  words = words;
  init = facts (0 ∷ 1 ∷ []);
  goal = facts (2 ∷ []);
  schemas = plain (0 ∷ []) 2 2 ∷ plain (1 ∷ []) 2 3 ∷ [];
  values = [];
  unknown = [];
  sound = refl;
}

-- (r) isn't true at first, and jump needs nothing and costs 1
abbrev pub user : Model
user = record {
  words = words;
  init = facts (0 ∷ []);
  goal = facts (2 ∷ []);
  schemas = plain (0 ∷ []) 2 2 ∷ plain [] 2 1 ∷ [];
  values = [];
  unknown = [];
  sound = refl;
}

-- 1 initially (r) is true; 2 action jump needs (r); 3 action jump costs 3, not 1
abbrev pub places : List Place
places = Init (fact 1 []) ∷ Pre 1 (bare 1) ∷ Cost 1 ∷ []

-- the plan is (walk)
abbrev pub task : List ℕ → Task
task weights = task_of words planner user places weights (step 0 ∷ [])

-- the sets after which (walk) is cheapest in the user's model
abbrev pub complete : List (List ℕ)
complete = (2 ∷ []) ∷ (3 ∷ []) ∷ (1 ∷ 3 ∷ []) ∷ (2 ∷ 3 ∷ []) ∷ (1 ∷ 2 ∷ 3 ∷ []) ∷ []

-- the sets after which it stays cheapest, whatever else is told
abbrev pub monotonic : List (List ℕ)
monotonic = (3 ∷ []) ∷ (1 ∷ 3 ∷ []) ∷ (2 ∷ 3 ∷ []) ∷ (1 ∷ 2 ∷ 3 ∷ []) ∷ []

abbrev pub ones : List ℕ
ones = 1 ∷ 1 ∷ 1 ∷ []

-- the user's model after the differences with these numbers
abbrev pub after : List ℕ → Meaning
after numbers = patched (meaning planner) (meaning user) places (of numbers)

-- the list is that of the differences of these models
abbrev pub AreListed : List Place → Type 0
AreListed = AreDifferences words (meaning planner) (meaning user)

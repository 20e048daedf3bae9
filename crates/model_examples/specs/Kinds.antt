-- Two models with differences of each kind, both ways.
use Rattle.std.specs.Prelude.{ℕ, List, [], ◌∷◌, codes, replicate, refl}
use Rattle.model_kit.specs.declared.vocabulary.Vocabulary.{Vocabulary}
use Rattle.model_kit.specs.declared.model.Model.{Model}
use Rattle.model_kit.specs.declared.model.Schema.{Schema}
use Rattle.model_kit.specs.declared.model.CostExpr.TheVariants.{Number, Call}
use Rattle.model_kit.specs.declared.atom.SchemaAtom.{SchemaAtom}
use Rattle.model_kit.specs.declared.atom.Term.TheVariants.{Param}
use Rattle.model_kit.specs.Places.{Place, Init, Goal, Knows, Pre, Add, Del, Cost, Value}
use Rattle.model_kit.specs.Explanations.{Task}
use Rattle.model_kit.specs.Laws.{task_of}
use Rattle.model_examples.specs.Build.{word, one_type, fact, facts, atom, bare, step}

-- objects 0 a, 1 b; predicates 0 (p ?1), 1 (q ?1), 2 (g), 3 (h); function 0 (toll ?1); actions 0
-- (use ?1), 1 (rest), 2 (wait)
abbrev pub words : Vocabulary
words = record {
  types = one_type;
  objects = (codes "a", 0) ∷ (codes "b", 0) ∷ [];
  predicates =
      word (codes "p") (0 ∷ []) ∷ word (codes "q") (0 ∷ []) ∷ word (codes "g") [] ∷ word (codes "h")
      [] ∷ [];
  functions = word (codes "toll") (0 ∷ []) ∷ [];
  actions = word (codes "use") (0 ∷ []) ∷ word (codes "rest") [] ∷ word (codes "wait") [] ∷ [];
  sound = refl;
}

-- a predicate of the parameter of use
abbrev pub its : ℕ → SchemaAtom
its predicate = atom predicate (Param 0 ∷ [])

-- the schema that does nothing and costs nothing
abbrev pub idle : Schema
idle = record { pre = []; add = []; del = []; cost = Number 0 }

abbrev pub planner : Model
planner = record {
  words = words;
  init = fact 0 (0 ∷ []) ∷ [];
  goal = facts (2 ∷ []);
  schemas =
      record {
        pre = its 0 ∷ [];
        add = bare 2 ∷ [];
        del = its 0 ∷ [];
        cost = Number
            3;
      } ∷ idle ∷ idle ∷ [];
  values = (0, 0 ∷ [], 4) ∷ [];
  unknown = 2 ∷ [];
  sound = refl;
}

abbrev pub user : Model
user = record {
  words = words;
  init = fact 0 (1 ∷ []) ∷ [];
  goal = facts (3 ∷ []);
  schemas =
      record {
        pre = its 1 ∷ [];
        add = bare 3 ∷ [];
        del = its 1 ∷ [];
        cost = Call 0
            (Param 0 ∷ []);
      } ∷ idle ∷ idle ∷ [];
  values = (0, 1 ∷ [], 5) ∷ [];
  unknown = 1 ∷ [];
  sound = refl;
}

-- two of each kind but the cost
abbrev pub places : List Place
places =
    Init (fact 0 (0 ∷ [])) ∷ Init (fact 0 (1 ∷ []))
    ∷ Goal (fact 2 []) ∷ Goal (fact 3 [])
    ∷ Pre 0 (its 0) ∷ Pre 0 (its 1)
    ∷ Add 0 (bare 2) ∷ Add 0 (bare 3)
    ∷ Del 0 (its 0) ∷ Del 0 (its 1)
    ∷ Cost 0
    ∷ Knows 1 ∷ Knows 2
    ∷ Value 0 (0 ∷ []) ∷ Value 0 (1 ∷ [])
    ∷ []

abbrev pub ones : List ℕ
ones = replicate 15 1

-- the plan is (rest)
abbrev pub task : Task
task = task_of words planner user places ones (step 1 ∷ [])

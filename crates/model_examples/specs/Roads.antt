-- Two models of roads with lengths: they differ in the goal and in two values.
use Rattle.std.specs.Prelude.{ℕ, List, [], ◌∷◌, codes, refl}
use Rattle.model_kit.specs.declared.vocabulary.Vocabulary.{Vocabulary}
use Rattle.model_kit.specs.declared.model.Model.{Model}
use Rattle.model_kit.specs.declared.model.Schema.{Schema}
use Rattle.model_kit.specs.declared.model.CostExpr.TheVariants.{Call}
use Rattle.model_kit.specs.declared.atom.Term.TheVariants.{Param}
use Rattle.model_kit.specs.declared.atom.GroundAtom.{GroundAtom}
use Rattle.model_kit.specs.declared.action.GroundAction.{GroundAction}
use Rattle.model_kit.specs.Places.{Place, Goal, Value, meaning}
use Rattle.model_kit.specs.Runs.{State, After, Initial}
use Rattle.model_kit.specs.Explanations.{Task}
use Rattle.model_kit.specs.Laws.{task_of}
use Rattle.model_examples.specs.Build.{word, one_type, fact, atom, act}

-- objects 0 a, 1 b, 2 c; predicate 0 (at ?1); function 0 (road ?1 ?2); action 0 (go ?1 ?2)
abbrev pub words : Vocabulary
words = record {
  types = one_type;
  objects = (codes "a", 0) ∷ (codes "b", 0) ∷ (codes "c", 0) ∷ [];
  predicates = word (codes "at") (0 ∷ []) ∷ [];
  functions = word (codes "road") (0 ∷ 0 ∷ []) ∷ [];
  actions = word (codes "go") (0 ∷ 0 ∷ []) ∷ [];
  sound = refl;
}

abbrev pub at : ℕ → GroundAtom
at object = fact 0 (object ∷ [])

abbrev pub go : ℕ → ℕ → GroundAction
go start end = act 0 (start ∷ end ∷ [])

-- (go ?1 ?2) needs (at ?1), makes it false and (at ?2) true, and costs the value of (road ?1 ?2)
abbrev pub ways : List Schema
ways =
    record {
      pre = atom 0 (Param 0 ∷ []) ∷ [];
      add = atom 0 (Param 1 ∷ []) ∷ [];
      del = atom 0 (Param 0 ∷ []) ∷ [];
      cost = Call 0 (Param 0 ∷ Param 1 ∷ []);
    }
    ∷ []

-- from a to c; the road from a to c is long
abbrev pub planner : Model
planner = record {
  words = words;
  init = at 0 ∷ [];
  goal = at 2 ∷ [];
  schemas = ways;
  values = (0, 0 ∷ 1 ∷ [], 2) ∷ (0, 1 ∷ 2 ∷ [], 3) ∷ (0, 0 ∷ 2 ∷ [], 9) ∷ (0, 1 ∷ 0 ∷ [], 1) ∷ [];
  unknown = [];
  sound = refl;
}

-- nothing is wanted, the road from a to c is short, and that from b to a has no value
abbrev pub user : Model
user = record {
  words = words;
  init = at 0 ∷ [];
  goal = [];
  schemas = ways;
  values = (0, 0 ∷ 1 ∷ [], 2) ∷ (0, 1 ∷ 2 ∷ [], 3) ∷ (0, 0 ∷ 2 ∷ [], 4) ∷ [];
  unknown = [];
  sound = refl;
}

-- 1 the goal has (at c); 2 the value of (road a c) is 9, not 4; 3 the value of (road b a) is 1, not
-- none
abbrev pub places : List Place
places = Goal (at 2) ∷ Value 0 (0 ∷ 2 ∷ []) ∷ Value 0 (1 ∷ 0 ∷ []) ∷ []

-- the plan is (go a b) (go b c)
abbrev pub task : Task
task = task_of words planner user places (1 ∷ 1 ∷ 1 ∷ []) (go 0 1 ∷ go 1 2 ∷ [])

-- the sets with the goal and the value of (road a c)
abbrev pub complete : List (List ℕ)
complete = (1 ∷ 2 ∷ []) ∷ (1 ∷ 2 ∷ 3 ∷ []) ∷ []

abbrev pub way : List GroundAction
way = go 0 1 ∷ go 1 2 ∷ []

-- the planner's model with a road from a to c that is as long as the way by b
abbrev pub tied : Model
tied = record {
  words = words;
  init = at 0 ∷ [];
  goal = at 2 ∷ [];
  schemas = ways;
  values = (0, 0 ∷ 1 ∷ [], 2) ∷ (0, 1 ∷ 2 ∷ [], 3) ∷ (0, 0 ∷ 2 ∷ [], 5) ∷ [];
  unknown = [];
  sound = refl;
}

-- what is true after an action from the planner's initial facts
abbrev pub after : GroundAction → State
after action = After (meaning planner) (Initial (meaning planner)) action

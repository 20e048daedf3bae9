-- Two models that number their names differently, and their joint vocabulary.
use Rattle.std.specs.Prelude.{ℕ, [], ◌∷◌, codes, refl}
use Rattle.model_kit.specs.declared.vocabulary.Vocabulary.{Vocabulary}
use Rattle.model_kit.specs.declared.model.Model.{Model}
use Rattle.model_kit.specs.declared.model.Schema.{Schema}
use Rattle.model_kit.specs.declared.model.CostExpr.TheVariants.{Call}
use Rattle.model_kit.specs.declared.atom.Term.TheVariants.{Param}
use Rattle.model_examples.specs.Build.{word, one_type, fact, facts, atom, bare}

-- objects 0 a, 1 b; predicates 0 (p ?1), 1 (g); function 0 (toll ?1); action 0 (walk ?1)
abbrev pub planner_words : Vocabulary
planner_words = record {
  types = one_type;
  objects = (codes "a", 0) ∷ (codes "b", 0) ∷ [];
  predicates = word (codes "p") (0 ∷ []) ∷ word (codes "g") [] ∷ [];
  functions = word (codes "toll") (0 ∷ []) ∷ [];
  actions = word (codes "walk") (0 ∷ []) ∷ [];
  sound = refl;
}

-- objects 0 b, 1 a; predicates 0 (g), 1 (q), 2 (p ?1); functions 0 (fee), 1 (toll ?1); actions 0
-- (jump), 1 (walk ?1)
abbrev pub user_words : Vocabulary
user_words = record {
  types = one_type;
  objects = (codes "b", 0) ∷ (codes "a", 0) ∷ [];
  predicates = word (codes "g") [] ∷ word (codes "q") [] ∷ word (codes "p") (0 ∷ []) ∷ [];
  functions = word (codes "fee") [] ∷ word (codes "toll") (0 ∷ []) ∷ [];
  actions = word (codes "jump") [] ∷ word (codes "walk") (0 ∷ []) ∷ [];
  sound = refl;
}

-- the planner's, and after it (q), (fee) and (jump)
abbrev pub words : Vocabulary
words = record {
  types = one_type;
  objects = (codes "a", 0) ∷ (codes "b", 0) ∷ [];
  predicates = word (codes "p") (0 ∷ []) ∷ word (codes "g") [] ∷ word (codes "q") [] ∷ [];
  functions = word (codes "toll") (0 ∷ []) ∷ word (codes "fee") [] ∷ [];
  actions = word (codes "walk") (0 ∷ []) ∷ word (codes "jump") [] ∷ [];
  sound = refl;
}

-- the schema of walk by the numbers of (p ?1), (g) and (toll ?1), and that of jump by those of (q),
-- (g) and (fee)
abbrev pub walk : ℕ → ℕ → ℕ → Schema
walk p g toll =
    record {
      pre = atom p (Param 0 ∷ []) ∷ [];
      add = bare g ∷ [];
      del = [];
      cost = Call toll
          (Param 0 ∷ []);
    }

abbrev pub jump : ℕ → ℕ → ℕ → Schema
jump q g fee = record { pre = bare q ∷ []; add = bare g ∷ []; del = []; cost = Call fee [] }

-- (p a) is true at first, (g) is wanted, and the value of (toll a) is 2
abbrev pub planner : Model
planner = record {
  words = planner_words;
  init = fact 0 (0 ∷ []) ∷ [];
  goal = facts (1 ∷ []);
  schemas = walk 0 1 0 ∷ [];
  values = (0, 0 ∷ [], 2) ∷ [];
  unknown = [];
  sound = refl;
}

-- (q) is true at first too, and the value of (fee) is 1
abbrev pub user : Model
user = record {
  words = user_words;
  init = fact 2 (1 ∷ []) ∷ fact 1 [] ∷ [];
  goal = facts (0 ∷ []);
  schemas = jump 1 0 0 ∷ walk 2 0 1 ∷ [];
  values = (1, 1 ∷ [], 2) ∷ (0, [], 1) ∷ [];
  unknown = [];
  sound = refl;
}

-- the planner's model in the joint numbers: jump is as the user has it, and unknown
abbrev pub joint_planner : Model
joint_planner = record {
  words = words;
  init = fact 0 (0 ∷ []) ∷ [];
  goal = facts (1 ∷ []);
  schemas = walk 0 1 0 ∷ jump 2 1 1 ∷ [];
  values = (0, 0 ∷ [], 2) ∷ [];
  unknown = 1 ∷ [];
  sound = refl;
}

abbrev pub joint_user : Model
joint_user = record {
  words = words;
  init = fact 0 (0 ∷ []) ∷ fact 2 [] ∷ [];
  goal = facts (1 ∷ []);
  schemas = walk 0 1 0 ∷ jump 2 1 1 ∷ [];
  values = (0, 0 ∷ [], 2) ∷ (1, [], 1) ∷ [];
  unknown = [];
  sound = refl;
}

-- walk takes no object
abbrev pub other_words : Vocabulary
other_words = record {
  types = one_type;
  objects = (codes "a", 0) ∷ (codes "b", 0) ∷ [];
  predicates = [];
  functions = [];
  actions = word (codes "walk") [] ∷ [];
  sound = refl;
}

-- b isn't there
abbrev pub fewer_words : Vocabulary
fewer_words = record {
  types = one_type;
  objects = (codes "a", 0) ∷ [];
  predicates = [];
  functions = [];
  actions = [];
  sound = refl;
}

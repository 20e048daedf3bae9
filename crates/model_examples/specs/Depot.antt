-- A vocabulary with types one below another.
use Rattle.std.specs.Prelude.{ℕ, List, [], ◌∷◌, codes, refl}
use Rattle.model_kit.specs.declared.vocabulary.Vocabulary.{Vocabulary}
use Rattle.model_kit.specs.declared.action.GroundAction.{GroundAction}
use Rattle.model_examples.specs.Build.{word, act}

-- types: place, depot below it, and truck; objects: 0 a depot, 1 a place, 2 a truck; (at ?1) of a
-- place; (go ?1 ?2) of a truck and a place
abbrev pub words : Vocabulary
words = record {
  types = (codes "object", 0) ∷ (codes "place", 0) ∷ (codes "depot", 1) ∷ (codes "truck", 0) ∷ [];
  objects = (codes "hub", 2) ∷ (codes "mill", 1) ∷ (codes "t1", 3) ∷ [];
  predicates = word (codes "at") (1 ∷ []) ∷ [];
  functions = [];
  actions = word (codes "go") (3 ∷ 1 ∷ []) ∷ [];
  sound = refl;
}

abbrev pub go : List ℕ → GroundAction
go objects = act 0 objects

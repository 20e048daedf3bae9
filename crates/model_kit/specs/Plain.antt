-- Plain vocabularies: no predicate and no action has parameters, and there is no cost function.
use Rattle.std.specs.Prelude.{◌&&◌, Bool, true, false, List, [], ◌∷◌}
use Rattle.std.specs.List.{list_all}
use Rattle.model_kit.specs.declared.vocabulary.Vocabulary.{Vocabulary}

-- the list is empty
abbrev pub has_none : {X : Type 0} → List X → Bool
has_none [] = true
has_none (x ∷ xs) = false

-- no predicate and no action has parameters, and no cost is a function's value
abbrev pub is_plain : Vocabulary → Bool
is_plain words =
    list_all (λ s. has_none s.params) words.predicates
    && (list_all (λ s. has_none s.params) words.actions && has_none words.functions)

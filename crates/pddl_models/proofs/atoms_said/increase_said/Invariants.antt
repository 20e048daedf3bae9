use Rattle.std.proofs.Common.{◌≡◌, ℕ, List, drop}
use Rattle.model_kit.specs.declared.vocabulary.Vocabulary.{Vocabulary}
use Rattle.pddl_vocabulary.specs.Values.{words_named, names_of}
use Rattle.pddl_models.specs.Says.{increase_in, own_words}
use Rattle.pddl_models.proofs.atoms_said.increase_said.Given as goal

abbrev pub invariant-loop-place : goal.invariant-loop-place
invariant-loop-place l = (words : Vocabulary) (own : List (List ℕ)) →
    increase_in (words_named words.functions) (names_of words.objects) own (own_words (drop l.place l.said))
    ≡ increase_in (words_named words.functions) (names_of words.objects) own (own_words (drop l.fn.start l.said))

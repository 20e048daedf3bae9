use Rattle.std.proofs.Common.{◌∷◌, refl}
use Rattle.std.specs.Prelude.{codes}
use Rattle.pddl_vocabulary.specs.Values.{type_words}
use Rattle.pddl_vocabulary.proofs.GatherLemmas.{Gathered}
use Rattle.pddl_vocabulary.proofs.vocabulary_types.type_words.Given as goal

abbrev pub invariant-loop-place : goal.invariant-loop-place
invariant-loop-place l = Gathered type_words refl l.words (codes "object" ∷ type_words l.words) l.place l.made

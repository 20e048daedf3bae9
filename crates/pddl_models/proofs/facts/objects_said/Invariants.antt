use Rattle.std.proofs.Common.{◌≡◌, ◌++◌, ℕ, List, map, drop}
use Rattle.pddl_names.specs.Listings.{terms_behind}
use Rattle.pddl_models.specs.WordTables.{ArePlacesOf}
use Rattle.pddl_vocabulary.specs.Values.{place_in}
use Rattle.pddl_models.proofs.facts.objects_said.Given as goal

abbrev pub invariant-loop-place : goal.invariant-loop-place
invariant-loop-place l = (things : List (List ℕ)) → ArePlacesOf things l.objects →
    l.made ++ map (place_in things) (terms_behind (drop l.place l.said)) ≡ map (place_in things) (terms_behind (drop l.fn.start l.said))

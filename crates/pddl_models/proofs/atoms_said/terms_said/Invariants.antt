use Rattle.std.proofs.Common.{◌≡◌, ◌++◌, ℕ, List, map, drop}
use Rattle.pddl_names.specs.Listings.{terms_behind}
use Rattle.pddl_models.specs.WordTables.{ArePlacesOf}
use Rattle.pddl_models.specs.Says.{term_said}
use Rattle.pddl_models.proofs.atoms_said.terms_said.Given as goal

abbrev pub invariant-loop-place : goal.invariant-loop-place
invariant-loop-place l = (things own : List (List ℕ)) → ArePlacesOf things l.objects → ArePlacesOf own l.params →
    l.made ++ map (term_said things own) (terms_behind (drop l.place l.said)) ≡ map (term_said things own) (terms_behind (drop l.fn.start l.said))

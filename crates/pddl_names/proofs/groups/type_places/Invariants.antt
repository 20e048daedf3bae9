use Rattle.pddl_names.proofs.GroupLemmas.{PlacesFrom}
use Rattle.pddl_names.proofs.groups.type_places.Given as goal

abbrev pub invariant-loop-place : goal.invariant-loop-place
invariant-loop-place l = PlacesFrom l.words l.place l.behind l.places.items

use Rattle.std.proofs.Common.{ℕ, ◌≡◌, ◌≤◌, length, sym, subst, ◌∙◌, arith}
use Rattle.pddl_names.proofs.GroupLemmas.{PlacesFrom, places_none, places_more}
use Rattle.pddl_names.proofs.groups.type_places.Goals as goal

pub loop-place-init : goal.loop-place-init
loop-place-init c =
    let words = c.args.words.now in
    let items = c.in_ok-places.places.items in
    let count : length items ≡ length words = sym c.in_ok-places.places.ok.0 ∙ c.in_ok-places.ensures.len ∙ c.len.ensures in
    subst (λ (n : ℕ). PlacesFrom words n c.len-behind.result items) (sym c.len-place.ensures)
    (subst (λ (n : ℕ). PlacesFrom words (length words) n items) (sym c.len-behind.ensures) (places_none words items count))

pub loop-place-preserved : goal.loop-place-preserved
loop-place-preserved c =
    let within : c.loop-place.place ≤ length c.args.words.now = omega arith in
    places_more c.args.words.now c.loop-place.place c.loop-place.behind c.group_place-behind.result c.loop-place.places.items c.loop-place.invariant c.loop-place-test.true within c.group_place-behind.ensures

use Rattle.std.proofs.Common.{◌++◌, ◌∷◌, [], map, take, sym, ap, ◌∙◌, append_assoc}
use Rattle.std.proofs.lemmas.List.{map-append}
use Rattle.mre_base.proofs.Loops.{take_item}
use Rattle.pddl_names.specs.TypeTrees.{parent_entry}
use Rattle.pddl_names.proofs.climbing.parents_of.Goals as goal

pub loop-place-preserved : goal.loop-place-preserved
loop-place-preserved c =
    let types = c.args.types.now in
    let e = c.item.result.now in
    let so_far = take c.loop-place.place types in
    c.in_ok-push.ensures.ok ∙ (λ i. c.loop-place.invariant i ++ (c.in_ok-parent.ensures.ok i, c.in_ok-of.ensures.ok i) ∷ [])
    ∙ append_assoc c.args.before (map parent_entry so_far) (parent_entry e ∷ [])
    ∙ ap (λ es. c.args.before ++ es) (sym (map-append parent_entry so_far (e ∷ [])) ∙ ap (map parent_entry) (sym (take_item types c.loop-place.place e c.item.ensures)))

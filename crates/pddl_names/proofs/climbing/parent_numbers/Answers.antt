use Rattle.std.proofs.Common.{◌≡◌, length, map, sym, ap, subst, ◌∙◌, arith, rules}
use Rattle.std.proofs.lemmas.List.{take_all}
use Rattle.pddl_names.specs.Forests.{AreUps}
use Rattle.pddl_names.proofs.TreeLemmas.{ups_within}
use Rattle.std.specs.Prelude.{unwrap_or}
use Rattle.mre_base.proofs.Loops.{map_item}
use Rattle.pddl_names.specs.TypeTrees.{parent_number}
use Rattle.pddl_names.proofs.climbing.parent_numbers.Goals as goal

pub loop-place-preserved : goal.loop-place-preserved
loop-place-preserved c =
    map_item c.args.names.now.entries c.loop-place.place c.item.result.now c.item.ensures (parent_number c.args.names.now.entries) c.loop-place.made.items c.push.new.self.items c.unwrap_or.result c.loop-place.invariant
    (search rules) (c.unwrap_or.ensures ∙ ap (λ o. unwrap_or o 0) c.number.ensures)

pub returns-clause-ups : goal.returns-clause-ups
returns-clause-ups c =
    let entries = c.args.names.now.entries in
    let size : c.len-place-end.result ≡ length entries = search rules in
    let whole = take_all c.loop-place.place entries (omega (arith, size, c.loop-place-test.false)) in
    subst AreUps (sym (c.loop-place.invariant ∙ ap (map (parent_number entries)) whole)) (ups_within entries)

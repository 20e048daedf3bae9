use Rattle.std.proofs.Common.{◌≡◌, arith, rules, ◌∙◌, sym, None}
use Rattle.std.specs.BTreeMap.{get_by_text}
use Rattle.joint_models.proofs.Entries.{place_more, places_done, none_past}
use Rattle.joint_models.proofs.listed.Listed.of.Goals as goal

pub loop-place-init : goal.loop-place-init
loop-place-init c = λ name.
    let none : get_by_text c.new-places.result name ≡ None = search rules in
    none ∙ sym (none_past c.len-place.result c.args.entries name c.len-place.ensures)

pub loop-place-preserved : goal.loop-place-preserved
loop-place-preserved c =
    place_more c.args.entries c.loop-place.place c.item.result.now c.loop-place-test.true c.item.ensures c.in_ok-name.name (c.in_ok-name.ensures.ok ∙ c.as_str.ensures) c.loop-place.places c.insert.new.self
    c.loop-place.invariant c.in_ok-insert.ensures.updates

pub invariant_of-result : goal.invariant_of-result
invariant_of-result c = record { found = places_done c.args.entries c.loop-place.place c.loop-place.places (omega (arith, c.loop-place-test.false)) c.loop-place.invariant }

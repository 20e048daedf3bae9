use Rattle.std.proofs.Common.{◌≡◌, None, ◌∙◌, ap, rules, arith}
use Rattle.std.specs.Prelude.{unwrap_or}
use Rattle.std.specs.BTreeMap.{get}
use Rattle.model_kit.specs.Judging.{atom_cmp}
use Rattle.pair_tables.proofs.NumberLemmas.{place_more, places_done, none_placed}
use Rattle.pair_tables.proofs.numbers.AtomNumbers.of.Goals as goal

pub loop-place-init : goal.loop-place-init
loop-place-init c = λ atom.
    let none : get atom_cmp c.new-places.result atom ≡ None = search rules in
    none ∙ none_placed c.args.atoms.now c.len-place.result atom c.len-place.ensures

pub loop-place-preserved : goal.loop-place-preserved
loop-place-preserved c =
    place_more c.args.atoms.now c.loop-place.place c.item.result.now c.loop-place-test.true c.item.ensures _ c.in_ok-copy.ensures.ok c.loop-place.places c.insert.new.self c.loop-place.invariant c.in_ok-insert.ensures.updates

pub returns : goal.returns
returns c = λ atom.
    ap (unwrap_or (get atom_cmp c.loop-place.places atom)) c.len.ensures
    ∙ places_done c.args.atoms.now c.loop-place.place (omega (arith, c.loop-place-test.false)) atom (get atom_cmp c.loop-place.places atom) (c.loop-place.invariant atom)

use Rattle.std.proofs.Common.{◌≡◌, ◌+◌, ◌-◌, sym, ◌∙◌, arith}
use Rattle.pddl_names.proofs.CallLemmas.{count_told, call_inside, call_names, table_put, table_pass}
use Rattle.pddl_names.proofs.values_twice.call_table.Goals as goal

pub loop-place-preserved-then-not-is_value : goal.loop-place-preserved-then-not-is_value
loop-place-preserved-then-not-is_value c =
    let next : c.loop-place.place ≡ c.loop-place.place - 1 + 1 = omega arith in
    table_pass c.args.words.now (c.loop-place.place - 1) c.item.result.now c.item.ensures c.loop-place.place next (sym c.is_value.ensures ∙ c.if-not-is_value.true) c.loop-place.table c.loop-place.invariant

pub call_of-requires : goal.call_of-requires
call_of-requires c =
    let told = count_told c.args.words.now c.args.terms.now.items c.requires.terms (c.loop-place.place - 1) c.item.result.now c.item.ensures c.index.result.now c.index.ensures in
    record {
      few = c.requires.few;
      inside = call_inside c.args.words.now (c.loop-place.place - 1) c.item.result.now c.item.ensures c.index.result.now told;
    }

pub loop-place-preserved : goal.loop-place-preserved
loop-place-preserved c =
    let next : c.loop-place.place ≡ c.loop-place.place - 1 + 1 = omega arith in
    let told = count_told c.args.words.now c.args.terms.now.items c.requires.terms (c.loop-place.place - 1) c.item.result.now c.item.ensures c.index.result.now c.index.ensures in
    table_put c.args.words.now (c.loop-place.place - 1) c.item.result.now c.item.ensures c.loop-place.place next (sym c.is_value.ensures ∙ c.if-not-is_value.false)
    c.in_ok-call.call (c.in_ok-call.ensures.ok ∙ call_names c.args.words.now (c.loop-place.place - 1) c.item.result.now c.item.ensures c.index.result.now told)
    c.loop-place.table c.insert.new.self c.loop-place.invariant c.in_ok-insert.ensures.updates

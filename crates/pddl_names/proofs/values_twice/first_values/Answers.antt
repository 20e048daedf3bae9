use Rattle.std.proofs.Common.{◌<◌, length, length-set, sym, ap, ◌∙◌, arith}
use Rattle.std.specs.Prelude.{unwrap_or}
use Rattle.pddl_names.proofs.CallLemmas.{count_told, call_inside, call_names, firsts_put, firsts_pass, first_told}
use Rattle.pddl_names.proofs.values_twice.first_values.Goals as goal

pub loop-place-preserved-then-not-is_value : goal.loop-place-preserved-then-not-is_value
loop-place-preserved-then-not-is_value c = record {
  size = c.loop-place.invariant.size;
  firsts = firsts_pass c.args.words.now c.loop-place.place c.item.result.now c.item.ensures c.loop-place.firsts.items (sym c.is_value.ensures ∙ c.if-not-is_value.true) c.loop-place.invariant.firsts;
}

pub call_of-requires : goal.call_of-requires
call_of-requires c =
    let told = count_told c.args.words.now c.args.terms.now.items c.requires.terms c.loop-place.place c.item.result.now c.item.ensures c.index.result.now c.index.ensures in
    record {
      few = c.requires.few;
      inside = call_inside c.args.words.now c.loop-place.place c.item.result.now c.item.ensures c.index.result.now told;
    }

pub loop-place-preserved : goal.loop-place-preserved
loop-place-preserved c =
    let words = c.args.words.now in
    let place = c.loop-place.place in
    let w = c.item.result.now in
    let told = count_told words c.args.terms.now.items c.requires.terms place w c.item.ensures c.index.result.now c.index.ensures in
    let names = c.in_ok-call.ensures.ok ∙ call_names words place w c.item.ensures c.index.result.now told in
    let inside : place < length c.loop-place.firsts.items = omega (arith, c.loop-place.invariant.size, c.loop-place-test.true) in
    let got = c.unwrap_or.ensures ∙ ap (λ o. unwrap_or o 0) (c.copied.ensures ∙ c.get.ensures.value) in
    record {
      size = length-set c.loop-place.firsts.items place c.unwrap_or.result ∙ c.loop-place.invariant.size;
      firsts = firsts_put words place w c.item.ensures c.loop-place.firsts.items c.unwrap_or.result inside
          (got ∙ first_told words place w c.item.ensures c.in_ok-call.call c.in_ok-table.table names c.in_ok-table.ensures.ok) c.loop-place.invariant.firsts;
    }

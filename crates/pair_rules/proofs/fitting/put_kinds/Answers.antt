use Rattle.std.proofs.Common.{◌∙◌, sym, refl, arith}
use Rattle.std.proofs.lemmas.Option.{slice_get_read}
use Rattle.pair_rules.proofs.TypeLemmas.{put_width, put_grows, kind_there}
use Rattle.pair_rules.proofs.fitting.put_kinds.Goals as goal

pub loop-place-preserved : goal.loop-place-preserved
loop-place-preserved c = record {
  width = put_width c.loop-place.used c.put.new.self c.item.result.now c.put.ensures ∙ c.loop-place.invariant.width;
  grows = λ kind has. put_grows c.loop-place.used c.put.new.self c.item.result.now c.put.ensures kind (c.loop-place.invariant.grows kind has);
  there = kind_there c.args.kinds.now c.loop-place.place c.item.result.now c.loop-place.used c.put.new.self c.item.ensures c.put.ensures c.loop-place.invariant.there;
}

pub returns-clause-there : goal.returns-clause-there
returns-clause-there c kind (i, lt, is) =
    c.loop-place.invariant.there i kind (omega (arith, lt, c.loop-place-test.false, c.len-place-end.ensures)) (slice_get_read c.args.kinds.now _ i kind refl lt (sym is))

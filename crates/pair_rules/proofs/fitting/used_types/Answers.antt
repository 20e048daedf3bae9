use Rattle.std.proofs.Common.{◌<◌, sym, subst}
use Rattle.std.specs.Prelude.{All}
use Rattle.pair_rules.proofs.TypeLemmas.{params_below, used_more}
use Rattle.pair_rules.proofs.fitting.used_types.Goals as goal

pub put_kinds-requires : goal.put_kinds-requires
put_kinds-requires c = record {
  listed = subst (λ n. All (λ kind. kind < n) c.item.result.now.params) (sym c.loop-action.invariant.width) (params_below c.args.words.now c.loop-action.action c.item.result.now c.item.ensures);
}

pub loop-action-preserved : goal.loop-action-preserved
loop-action-preserved c =
    used_more c.args.words.now c.loop-action.action c.loop-action.used c.put_kinds.new.used c.item.result.now c.loop-action.invariant c.item.ensures c.put_kinds.ensures.width c.put_kinds.ensures.grows c.put_kinds.ensures.there

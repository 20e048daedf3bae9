use Rattle.std.proofs.Common.{sym, ◌∙◌, arith}
use Rattle.bound_cert.proofs.LookLemmas.{before_up_to, rest_from}
use Rattle.bound_cert.proofs.looking.place_for.Goals as goal

pub loop-low-preserved-then-list_before : goal.loop-low-preserved-then-list_before
loop-low-preserved-then-list_before c =
    record {
      ordered = omega arith;
      within = c.loop-low.invariant.within;
      before = before_up_to c.args.states.now c.args.wanted.now _ c.item.result.now c.requires.ascending c.item.ensures (sym c.if-list_before.true ∙ c.list_before.ensures);
      rest = c.loop-low.invariant.rest;
    }

pub loop-low-preserved : goal.loop-low-preserved
loop-low-preserved c =
    record {
      ordered = omega arith;
      within = omega arith;
      before = c.loop-low.invariant.before;
      rest = rest_from c.args.states.now c.args.wanted.now _ c.item.result.now c.requires.ascending c.item.ensures (sym c.if-list_before.false ∙ c.list_before.ensures);
    }

use Rattle.std.proofs.Common.{◌≡◌, ◌+◌, ◌∙◌, sym, true, drop}
use Rattle.std.specs.List.{list_any}
use Rattle.model_kit.proofs.FitLemmas.{any_here, any_more}
use Rattle.model_kit.proofs.entries.is_again.Goals as goal
use Rattle.mre_base.proofs.Options.{at_some}

pub returns-then-is_same : goal.returns-then-is_same
returns-then-is_same g c =
    at_some _ _ (λ entry. true ≡ list_any (g.T.Entry.same entry) (drop (c.args.place + 1) c.args.entries.now)) c.item-entry.ensures
    (any_here (g.T.Entry.same c.item-entry.result.now) c.args.entries.now _ _ c.item.ensures _ c.loop-later.invariant (sym c.is_same.ensures ∙ c.if-is_same.true))

pub loop-later-preserved : goal.loop-later-preserved
loop-later-preserved g c =
    any_more (g.T.Entry.same c.item-entry.result.now) c.args.entries.now _ _ c.item.ensures _ c.loop-later.invariant (sym c.is_same.ensures ∙ c.if-is_same.false)

use Rattle.std.proofs.Common.{◌&&◌, ◌∙◌, ap, sym}
use Rattle.model_kit.specs.Names.{are_distinct}
use Rattle.model_kit.proofs.FitLemmas.{all_fails, all_more}
use Rattle.model_kit.proofs.entries.do_pass.Goals as goal

pub returns-then-not-does_pass : goal.returns-then-not-does_pass
returns-then-not-does_pass g c =
    ap (λ b. b && are_distinct g.T.Entry.same c.args.entries.now)
    (all_fails (g.T.Entry.passes c.args.given.now) c.args.entries.now _ _ c.item.ensures _ c.loop-place.invariant (sym c.does_pass.ensures ∙ c.if-not-does_pass.true))

pub loop-place-preserved : goal.loop-place-preserved
loop-place-preserved g c =
    all_more (g.T.Entry.passes c.args.given.now) c.args.entries.now _ _ c.item.ensures _ c.loop-place.invariant (sym c.does_pass.ensures ∙ c.if-not-does_pass.false)

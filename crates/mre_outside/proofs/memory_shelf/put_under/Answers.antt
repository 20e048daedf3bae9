use Rattle.std.proofs.Common.{sym, ap, ◌∙◌}
use Rattle.mre_outside.specs.Kept.{kept_entries}
use Rattle.mre_outside.proofs.Lookups.{find_here, find_later}
use Rattle.mre_outside.proofs.memory_shelf.put_under.Goals as goal

pub returns-then-eq : goal.returns-then-eq
returns-then-eq c =
    let first = ap kept_entries c.in-Some.ensures.steps in
    let found = find_here c.args.name.now _ _ _ _ first _ c.as_str.ensures (sym c.eq.ensures ∙ c.if-eq.true) in
    cc

pub loop-kept-preserved : goal.loop-kept-preserved
loop-kept-preserved c =
    let first = ap kept_entries c.in-Some.ensures.steps in
    let later = find_later c.args.name.now _ _ _ _ first _ c.as_str.ensures (sym c.eq.ensures ∙ c.if-eq.false) in
    cc

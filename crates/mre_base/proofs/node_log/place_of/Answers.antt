use Rattle.std.proofs.Common.{◌≡◌, Option, None, Some, IfSome, IfNone, sym, ap, ◌∙◌, is_some, slice_get, ℕ, Contains, refl}
use Rattle.mre_base.proofs.SameNodes.{slice_get-position, absent}
use Rattle.mre_base.proofs.node_log.place_of.Goals as goal

pub returns-clause-there : goal.returns-clause-there
returns-clause-there c = by c.get_index_of.result refl
  where
    by : (r : Option ℕ) → c.get_index_of.result ≡ r → IfSome r (λ place. slice_get c.args.nodes.now.keys place ≡ Some c.args.node.now)
    by None e = tt
    by (Some place) e = slice_get-position c.args.nodes.now.keys c.args.node.now place (sym c.get_index_of.ensures.index ∙ e)

pub returns-clause-absent : goal.returns-clause-absent
returns-clause-absent c = by c.get_index_of.result refl
  where
    by : (r : Option ℕ) → c.get_index_of.result ≡ r → IfNone r (¬ Contains c.args.nodes.now.keys c.args.node.now)
    by None e = absent c.args.nodes.now.keys c.args.node.now (sym c.get_index_of.ensures.found ∙ ap is_some e)
    by (Some place) e = tt

use Rattle.std.proofs.Common.{◌≡◌, ℕ, Option, None, Some, IfSome, IfNone, Contains, slice_get, is_some, refl, sym, ap, ◌∙◌}
use Rattle.task_kit.proofs.SameStates.{slice_get-position, absent}
use Rattle.task_kit.proofs.reached.place_of.Goals as goal

pub returns-clause-there : goal.returns-clause-there
returns-clause-there c = by c.get_index_of.result refl
  where
    by : (r : Option ℕ) → c.get_index_of.result ≡ r → IfSome r (λ place. slice_get c.args.states.now.keys place ≡ Some c.args.state.now)
    by None e = tt
    by (Some place) e = slice_get-position c.args.states.now.keys c.args.state.now place (sym c.get_index_of.ensures.index ∙ e)

pub returns-clause-absent : goal.returns-clause-absent
returns-clause-absent c = by c.get_index_of.result refl
  where
    by : (r : Option ℕ) → c.get_index_of.result ≡ r → IfNone r (¬ Contains c.args.states.now.keys c.args.state.now)
    by None e = absent c.args.states.now.keys c.args.state.now (sym c.get_index_of.ensures.found ∙ ap is_some e)
    by (Some place) e = tt

use Rattle.std.proofs.Common.{◌≡◌, sym, ◌∙◌, take}
use Rattle.std.specs.Prelude.{IsTrue, nat_lt, slice_get}
use Rattle.mre_base.proofs.Options.{of_some, at_some}
use Rattle.pddl_names.specs.declared.role.Word.{Word}
use Rattle.pddl_names.specs.Kinds.{is_kind}
use Rattle.pddl_names.specs.Naming.{is_again}
use Rattle.pddl_names.proofs.AgainLemmas.{again_some, again_none}
use Rattle.pddl_names.proofs.repeats.is_declared_again.Goals as goal

pub returns-in-Some : goal.returns-in-Some
returns-in-Some c =
    let words = c.args.words.now in
    let w = c.item.result.now in
    let is = of_some (slice_get words c.args.place) w (λ (v : Word). IsTrue (is_kind c.args.kind v.role)) c.item.ensures c.requires.declares in
    at_some (slice_get words c.args.place) w (λ (v : Word). nat_lt c.in-Some.first c.args.place ≡ is_again (take c.args.place words) v) c.item.ensures
    (again_some c.args.kind words c.args.place w c.item.ensures c.requires.once is c.in-Some.first (sym (c.requires.places w.text) ∙ sym c.in-Some.ensures))

pub returns-in-None : goal.returns-in-None
returns-in-None c =
    let words = c.args.words.now in
    let w = c.item.result.now in
    let is = of_some (slice_get words c.args.place) w (λ (v : Word). IsTrue (is_kind c.args.kind v.role)) c.item.ensures c.requires.declares in
    absurd (again_none c.args.kind words c.args.place w c.item.ensures c.requires.once is (sym (c.requires.places w.text) ∙ sym c.in-None.ensures))

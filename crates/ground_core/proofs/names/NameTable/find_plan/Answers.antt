use Rattle.std.proofs.Common.{Some, ◌++◌, ◌∷◌, [], take, sym, subst}
use Rattle.mre_base.proofs.Listed.{all_take_item}
use Rattle.mre_base.proofs.Loops.{take_item}
use Rattle.model_kit.specs.Vocabulary.{IsGroundAction}
use Rattle.ground_core.specs.Names.{AreNamed, IsPlaceOf}
use Rattle.ground_core.proofs.NameLemmas.{named_more}
use Rattle.ground_core.proofs.names.NameTable.find_plan.Goals as goal

pub loop-place-preserved : goal.loop-place-preserved
loop-place-preserved c =
    let words = c.args.words.now in
    let names = c.args.self.now.actions.items in
    let steps = c.args.plan.now.steps in
    let step = c.item.result.now in
    let place = c.loop-place.place in
    let found : IsPlaceOf words names step (Some c.in-Some.number) = subst (IsPlaceOf words names step) c.in-Some.is c.in_ok-number.ensures.ok in (
      subst (AreNamed words names c.push.new.self) (sym (take_item steps place step c.item.ensures))
          (subst (λ list. AreNamed words names list (take place steps ++ step ∷ [])) (sym c.in_ok-push-in-Some.ensures.ok)
          (named_more words names c.loop-place.numbers (take place steps) c.in-Some.number step c.loop-place.invariant.0 found.1)),
      all_take_item (IsGroundAction words) steps place step c.item.ensures c.loop-place.invariant.1 found.0,
    )

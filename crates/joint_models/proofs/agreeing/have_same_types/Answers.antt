use Rattle.std.proofs.Common.{ℕ, sym, ◌∙◌}
use Rattle.std.proofs.lemmas.Bool.{not-true, not-false}
use Rattle.model_kit.specs.Same.{same_numbers}
use Rattle.model_kit.specs.Pairs.{type_name}
use Rattle.model_kit.proofs.FitLemmas.{fit_more, fit_fails}
use Rattle.joint_models.proofs.agreeing.have_same_types.Goals as goal

pub returns-then-ne : goal.returns-then-ne
returns-then-ne c =
    let test = λ (t u : ℕ). same_numbers (type_name c.args.one.now t) (type_name c.args.two.now u) in
    fit_fails test c.args.ones.now c.args.twos.now _ _ _ c.item.ensures c.item-in-loop-place.ensures c.loop-place.invariant
    ((λ i. same_numbers (sym c.type_name.ensures i) (sym c.type_name-in-loop-place.ensures i))
    ∙ not-true (same_numbers c.type_name.result.now c.type_name-in-loop-place.result.now) (sym c.ne.ensures ∙ c.if-ne.true))

pub loop-place-preserved : goal.loop-place-preserved
loop-place-preserved c =
    let test = λ (t u : ℕ). same_numbers (type_name c.args.one.now t) (type_name c.args.two.now u) in
    fit_more test c.args.ones.now c.args.twos.now _ _ _ c.item.ensures c.item-in-loop-place.ensures c.loop-place.invariant
    ((λ i. same_numbers (sym c.type_name.ensures i) (sym c.type_name-in-loop-place.ensures i))
    ∙ not-false (same_numbers c.type_name.result.now c.type_name-in-loop-place.result.now) (sym c.ne.ensures ∙ c.if-ne.false))

use Rattle.std.proofs.Common.{◌≡◌, ◌<◌, ◌∙◌, cond, List, [], length, sym, ap, subst, arith}
use Rattle.std.specs.Prelude.{slice_get}
use Rattle.model_kit.specs.Places.{Knows, meaning}
use Rattle.model_kit.specs.declared.model.CostExpr.{CostExpr}
use Rattle.model_kit.proofs.ModelFacts.{facts_of_model}
use Rattle.pair_rules.specs.Made.{is_known, costs_of}
use Rattle.pair_rules.proofs.RuleLemmas.{known_first, known_second}
use Rattle.pair_rules.proofs.ruling.rule_of.Goals.{then-knows, else-knows, then-is_known+in_ok-costs, else-is_known}
use Rattle.pair_rules.proofs.ruling.rule_of.Goals as goal

pub item-schema-requires : goal.item-schema-requires
item-schema-requires c =
    let same = (facts_of_model c.args.pair.now.planner).one_each in
    subst (λ m. c.args.action < length m.schemas) (sym c.planner.ensures) (omega (arith, c.requires.listed, same))

pub returns : goal.returns
returns c =
    let planner = c.args.pair.now.planner in
    let user = c.args.pair.now.user in
    let own = ap (λ m. meaning m (Knows c.args.action)) (sym c.planner-2.ensures) ∙ c.knows.ensures in
    let known : c.if-knows.is_known ≡ is_known planner user c.args.action = elim c.if-knows.branch [
      | then-knows w ↦ w.is_known-is ∙ w.if-knows.true ∙ known_first planner user c.args.action c.knows.result own w.if-knows.true
      | else-knows w ↦ w.is_known-is ∙ known_second planner user c.args.action c.knows.result own w.if-knows.false w.knows-is_known.result (ap (λ m. meaning m (Knows c.args.action)) (sym w.user.ensures) ∙ w.knows-is_known.ensures)
    ] in
    let costs : List CostExpr = costs_of c.args.differences.now c.args.action c.item-schema.result.now in
    let costs_are : c.if-is_known.costs ≡ cond (is_known planner user c.args.action) costs [] = elim c.if-is_known.branch [
      | then-is_known+in_ok-costs w ↦ w.costs-is ∙ w.in_ok-costs.ensures ∙ ap (λ b. cond b costs []) (sym w.if-is_known.true ∙ known)
      | else-is_known w ↦ w.costs-is ∙ w.empty-costs.ensures ∙ ap (λ b. cond b costs []) (sym w.if-is_known.false ∙ known)
    ] in
    record {
      signature = c.item.result.now;
      schema = c.item-schema.result.now;
      signed = ap (λ w. slice_get w.actions c.args.action) (sym c.words.ensures) ∙ c.item.ensures;
      listed = ap (λ m. slice_get m.schemas c.args.action) (sym c.planner.ensures) ∙ c.item-schema.ensures;
      is = λ i. record { params = c.in_ok-copy.ensures.ok i; needs = c.in_ok-needs_of.ensures i; costs = costs_are i; adds = c.in_ok-adds_of.ensures i };
    }

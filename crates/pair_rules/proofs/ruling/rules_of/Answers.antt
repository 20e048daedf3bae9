use Rattle.std.proofs.Common.{◌++◌, ◌∙◌, ap, subst, map}
use Rattle.std.specs.List.{filter_map}
use Rattle.reach_kit.specs.declared.world.World.{World}
use Rattle.pair_rules.specs.Fitting.{IsFitting}
use Rattle.pair_rules.specs.Made.{IsWorldMade, user_init, user_key, key_of}
use Rattle.pair_rules.proofs.RuleLemmas.{has_rules, rules_whole}
use Rattle.pair_rules.proofs.ruling.rules_of.Goals as goal

pub returns-clause-ok : goal.returns-clause-ok
returns-clause-ok c =
    let planner = c.args.pair.now.planner in
    let world : World = record { fitting = c.in_ok-fitting_of.field-0; initial = c.in_ok-facts_of.field-0; values = c.in_ok-keys_of.field-0; rules = c.in_ok-all_rules.field-0 } in
    let made : IsWorldMade planner c.args.pair.now.user c.args.differences.now world = record {
      fitting = subst (λ w. IsFitting w c.in_ok-fitting_of.field-0) c.words.ensures c.in_ok-fitting_of.ensures;
      initial = c.in_ok-facts_of.ensures ∙ ap (λ m. m.init ++ filter_map user_init c.args.differences.now) c.planner-planner.ensures;
      values = c.in_ok-keys_of.ensures ∙ ap (λ m. map key_of m.values ++ filter_map user_key c.args.differences.now) c.planner-planner.ensures;
      rules = c.in_ok-all_rules.ensures;
    } in
    has_rules planner c.args.pair.now.user c.args.pair.now.joint c.args.differences.now c.requires.all world made

pub returns-clause-rules : goal.returns-clause-rules
returns-clause-rules c =
    let planner = c.args.pair.now.planner in
    let world : World = record { fitting = c.in_ok-fitting_of.field-0; initial = c.in_ok-facts_of.field-0; values = c.in_ok-keys_of.field-0; rules = c.in_ok-all_rules.field-0 } in
    let made : IsWorldMade planner c.args.pair.now.user c.args.differences.now world = record {
      fitting = subst (λ w. IsFitting w c.in_ok-fitting_of.field-0) c.words.ensures c.in_ok-fitting_of.ensures;
      initial = c.in_ok-facts_of.ensures ∙ ap (λ m. m.init ++ filter_map user_init c.args.differences.now) c.planner-planner.ensures;
      values = c.in_ok-keys_of.ensures ∙ ap (λ m. map key_of m.values ++ filter_map user_key c.args.differences.now) c.planner-planner.ensures;
      rules = c.in_ok-all_rules.ensures;
    } in
    rules_whole planner c.args.pair.now.user c.args.pair.now.joint c.args.differences.now c.requires.all world made

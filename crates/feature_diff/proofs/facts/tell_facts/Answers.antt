use Rattle.std.proofs.Common.{refl, sym, subst}
use Rattle.std.specs.Prelude.{All, IsTrue}
use Rattle.std.proofs.lemmas.Result.{on_ok_weaker}
use Rattle.model_kit.specs.Vocabulary.{is_ground_atom}
use Rattle.feature_diff.proofs.FactLemmas.{facts_fit, facts_gained}
use Rattle.feature_diff.proofs.facts.tell_facts.Goals as goal

pub tell-requires-clause-planner_fits : goal.tell-requires-clause-planner_fits
tell-requires-clause-planner_fits c =
    subst (All (λ a. IsTrue (is_ground_atom c.args.planner.now.words a))) (sym c.facts_in.ensures) (facts_fit c.args.planner.now.words c.args.planner.now refl c.args.kind)

pub tell-requires-clause-user_fits : goal.tell-requires-clause-user_fits
tell-requires-clause-user_fits c =
    subst (All (λ a. IsTrue (is_ground_atom c.args.planner.now.words a))) (sym c.facts_in-2.ensures) (facts_fit c.args.planner.now.words c.args.user.now c.requires.joint c.args.kind)

pub returns : goal.returns
returns c = record {
  ok =
      on_ok_weaker c.tell.result
      (facts_gained c.args.planner.now c.args.user.now c.requires.joint c.args.kind c.facts_in.result.now c.facts_in-2.result.now c.facts_in.ensures c.facts_in-2.ensures c.args.gathered.now c.tell.new.gathered)
      c.tell.ensures.ok;
}

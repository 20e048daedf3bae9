-- What is reachable by the rules of two models is what is reachable in them.
use Rattle.model_kit.specs.Runs.{instance}
use Rattle.reach_kit.specs.declared.world.World.{World}
use Rattle.reach_kit.specs.Relaxed as rules
use Rattle.named_tables.specs.Models.{Models}
use Rattle.named_tables.specs.Reachable as named
use Rattle.named_tables.specs.Reachable.{Thing, Atom, Action, Reachable}
use Rattle.named_tables.specs.Laws.{ReachLaw}
use Rattle.named_tables.proofs.ReachLemmas.{reached_fits}
use Rattle.named_tables.specs.Worlds.{AreRulesOf, IsRuleOf}

-- the same atom or action, in the words of the models and of the rules
abbrev of_rules : rules.Thing → Thing
of_rules (rules.Atom atom) = Atom atom
of_rules (rules.Action action) = Action action

abbrev to_rules : Thing → rules.Thing
to_rules (Atom atom) = rules.Atom atom
to_rules (Action action) = rules.Action action

module _ (models : Models) (world : World) (are : AreRulesOf models world) where
  pub in_models : (thing : rules.Thing) → rules.IsReachable world thing → Reachable models (of_rules thing)
  in_models (rules.Atom a) (rules.Initial atom there) = named.Initial atom ((are.initial atom).0 there)
  in_models (rules.Action a) (rules.Enabled action rule cost at fits listed valued needs) =
      let of : IsRuleOf models world action.schema rule = are.each action.schema rule at in
      let is = (of.fits action.objects).0 fits in
      named.Enabled action is ((of.priced action.objects is).0 (cost, listed, valued)) (λ f planner user. in_models (rules.Atom (instance action.objects f)) (needs f ((of.needs f).1 (planner, user))))
  in_models (rules.Atom a) (rules.Added action rule add at listed reached) =
      named.Added action add (in_models (rules.Action action) reached) (((are.each action.schema rule at).adds add).0 listed)

  pub by_rules : (thing : Thing) → Reachable models thing → rules.IsReachable world (to_rules thing)
  by_rules (Atom a) (named.Initial atom has) = rules.Initial atom ((are.initial atom).1 has)
  by_rules (Action a) (named.Enabled action fits some needs) =
      let (rule, at) = are.all action fits in
      let of : IsRuleOf models world action.schema rule = are.each action.schema rule at in
      let (cost, listed, valued) = (of.priced action.objects fits).1 some in
      rules.Enabled action rule cost at ((of.fits action.objects).1 fits) listed valued
      (λ need among. let (planner, user) = (of.needs need).0 among in by_rules (Atom (instance action.objects need)) (needs need planner user))
  by_rules (Atom a) (named.Added action f reached has) =
      let (rule, at) = are.all action (reached_fits models action reached) in
      rules.Added action rule f at (((are.each action.schema rule at).adds f).1 has) (by_rules (Action action) reached)

pub reach_law : ReachLaw
reach_law models world limits reached are lists = record {
  each_atom = λ atom. (λ listed. in_models models world are (rules.Atom atom) ((lists.each_atom atom).0 listed), λ reach. (lists.each_atom atom).1 (by_rules models world are (Atom atom) reach));
  each_action = λ action. (λ listed. in_models models world are (rules.Action action) ((lists.each_action action).0 listed), λ reach. (lists.each_action action).1 (by_rules models world are (Action action) reach));
}

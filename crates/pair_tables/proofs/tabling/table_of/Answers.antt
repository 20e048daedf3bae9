use Rattle.std.proofs.Common.{◌≡◌, ◌≤◌, length, ◌∙◌, sym, subst}
use Rattle.std.specs.Prelude.{Contains}
use Rattle.std.proofs.lemmas.List.{length-map}
use Rattle.std.proofs.lemmas.List.Elements.{All-weaker, All-contains_itself}
use Rattle.model_kit.specs.declared.atom.GroundAtom.{GroundAtom}
use Rattle.model_kit.specs.Places.{Init, Goal}
use Rattle.feature_diff.specs.Differing.{place_of}
use Rattle.named_tables.specs.Models.{Models}
use Rattle.named_tables.specs.Tables.{AreCases}
use Rattle.pair_rules.specs.Ruled.{models_of}
use Rattle.pair_tables.specs.Made.{MayBeDone}
use Rattle.pair_tables.specs.Numbers.{number_by}
use Rattle.pair_tables.proofs.FeatureLemmas.{are_cases}
use Rattle.pair_tables.proofs.TableLemmas.{done, cases_in, actions_in, built}
use Rattle.pair_tables.proofs.tabling.table_of.Goals as goal

pub all_cases-requires-clause-done : goal.all_cases-requires-clause-done
all_cases-requires-clause-done c =
    let models : Models = models_of c.args.pair.now.planner c.args.pair.now.user c.args.differences.now in
    All-weaker (Contains c.args.actions.now) (MayBeDone models) (λ action among. done models action ((c.requires.reachable.each_action action).0 among)) c.args.actions.now (All-contains_itself c.args.actions.now)

pub invariant_of-result : goal.invariant_of-result
invariant_of-result c =
    let models : Models = models_of c.args.pair.now.planner c.args.pair.now.user c.args.differences.now in
    let number = number_by c.in_ok-numbers.numbers in
    let count : length models.places ≡ length c.args.differences.now = length-map c.args.differences.now place_of in
    record {
      sound =
          built models c.args.atoms.now c.args.actions.now c.requires.reachable number c.in_ok-numbers.ensures c.in_ok-fact_cases.field-0 c.in_ok-fact_cases-2.field-0 c.in_ok-all_cases.field-0 c.len.result c.len-2.result
          (c.len.ensures ∙ sym count) c.len-2.ensures
          (subst (AreCases models number GroundAtom Init (λ atom. atom)) (sym c.in_ok-fact_cases.ensures) (are_cases models number GroundAtom Init (λ atom. atom) c.in_ok-init.init c.in_ok-init.ensures))
          (subst (AreCases models number GroundAtom Goal (λ atom. atom)) (sym c.in_ok-fact_cases-2.ensures) (are_cases models number GroundAtom Goal (λ atom. atom) c.in_ok-goal.goal c.in_ok-goal.ensures))
          c.in_ok-all_cases.ensures (subst (λ n. n ≤ 256) (sym count) c.requires.few_differences) c.requires.few_atoms c.requires.few_actions;
    }

pub returns-clause-table : goal.returns-clause-table
returns-clause-table c =
    let models : Models = models_of c.args.pair.now.planner c.args.pair.now.user c.args.differences.now in
    let number = number_by c.in_ok-numbers.numbers in
    let reachable = c.requires.reachable in
    let start = c.in_ok-fact_cases.field-0 in
    let goals = c.in_ok-fact_cases-2.field-0 in
    let made = c.in_ok-all_cases.field-0 in
    let are = actions_in models c.args.atoms.now c.args.actions.now reachable number c.in_ok-numbers.ensures start goals made c.in_ok-all_cases.ensures in
    record {
      counted = c.len-2.ensures;
      start =
          cases_in models c.args.atoms.now c.args.actions.now reachable number c.in_ok-numbers.ensures start goals made Init start
          (subst (AreCases models number GroundAtom Init (λ atom. atom)) (sym c.in_ok-fact_cases.ensures) (are_cases models number GroundAtom Init (λ atom. atom) c.in_ok-init.init c.in_ok-init.ensures));
      goal =
          cases_in models c.args.atoms.now c.args.actions.now reachable number c.in_ok-numbers.ensures start goals made Goal goals
          (subst (AreCases models number GroundAtom Goal (λ atom. atom)) (sym c.in_ok-fact_cases-2.ensures) (are_cases models number GroundAtom Goal (λ atom. atom) c.in_ok-goal.goal c.in_ok-goal.ensures));
      one_each = are.counted;
      each = are.each;
    }

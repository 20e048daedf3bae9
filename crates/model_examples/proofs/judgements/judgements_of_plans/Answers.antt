use Rattle.std.proofs.Common.{[], ◌∷◌, refl, sym, subst, ⊎_elim}
use Rattle.std.proofs.lemmas.Bool.{true≢false}
use Rattle.model_kit.specs.declared.judging.NamedJudgement.TheVariants.{Fails}
use Rattle.model_kit.specs.Places.{Init, meaning}
use Rattle.model_kit.specs.Runs.{Has}
use Rattle.model_kit.specs.Judgement.{Judges}
use Rattle.model_kit.specs.Printed.{atom_form}
use Rattle.model_kit.specs.Differences.{IsPrintedBefore}
use Rattle.model_kit.proofs.JudgeLemmas.{judgement_once}
use Rattle.model_examples.specs.Build.{step, fact}
use Rattle.model_examples.specs.Hidden as hidden
use Rattle.model_examples.specs.Together as together
use Rattle.model_examples.specs.Roads as roads
use Rattle.model_kit.proofs.FirstLemmas.{cons_cases}
use Rattle.model_examples.proofs.Runs.{needs_known, adds_known, deletes_known, valid_by}
use Rattle.model_examples.proofs.Judged.{needed_listed, goal_listed, in_one, differ_by}
use Rattle.model_examples.proofs.judgements.judgements_of_plans.Goals as goals

-- (jump) needs (x) and (y), and neither is true; (x) is printed first
first : Judges together.words (meaning together.user) (step 1 ∷ []) (Fails 1 (fact 1 []))
first = (
  step 1,
  record {
    before = [];
    after = [];
    split = refl;
    number = refl;
    leads = record {
      has = ((needs_known together.user (step 1) (fact 1 [])).0 refl, λ on. true≢false (sym on));
      first = λ other lacks apart.
          ⊎_elim (λ same. absurd (apart same)) (λ rest. subst (λ a. IsPrintedBefore (atom_form together.words (fact 1 [])) (atom_form together.words a)) (sym (in_one (fact 2 []) other rest)) refl) (cons_cases (fact 1 []) (fact 2 [] ∷ []) other (needed_listed together.user (step 1) other lacks.0));
    };
  },
)

pub returns-clause-valid : goals.returns-clause-valid
returns-clause-valid c = (valid_by roads.planner roads.way refl, refl)

pub returns-clause-second : goals.returns-clause-second
returns-clause-second c = (
  roads.go 0 2,
  record {
    before = roads.go 0 1 ∷ [];
    after = [];
    split = refl;
    number = refl;
    leads = (
      record { priced = refl; met = λ a needed. subst (λ b. Has (meaning roads.planner) (Init b)) (sym (in_one (roads.at 0) a (needed_listed roads.planner (roads.go 0 1) a needed))) refl },
      record {
        has = (
          (needs_known roads.planner (roads.go 0 2) (roads.at 0)).0 refl,
          λ there. ⊎_elim (λ kept. kept.1 ((deletes_known roads.planner (roads.go 0 1) (roads.at 0)).0 refl)) (λ added. true≢false (sym ((adds_known roads.planner (roads.go 0 1) (roads.at 0)).1 added))) there,
        );
        first = λ other lacks apart. absurd (apart (in_one (roads.at 0) other (needed_listed roads.planner (roads.go 0 2) other lacks.0)));
      },
    );
  },
)

pub returns-clause-no_cost : goals.returns-clause-no_cost
returns-clause-no_cost c = (
  step 1,
  refl,
  record {
    before = [];
    after = [];
    split = refl;
    number = refl;
    leads = λ a needed. subst (λ b. Has (meaning hidden.planner) (Init b)) (sym (in_one (fact 1 []) a (needed_listed hidden.planner (step 1) a needed))) refl;
  },
)

pub returns-clause-goal : goals.returns-clause-goal
returns-clause-goal c = record {
  has = (refl, λ on. true≢false (sym on));
  first = λ other lacks apart. absurd (apart (in_one (roads.at 2) other (goal_listed roads.planner other lacks.0)));
}

pub returns-clause-first : goals.returns-clause-first
returns-clause-first c = first

pub returns-clause-not_first : goals.returns-clause-not_first
returns-clause-not_first c other =
    let same = judgement_once together.words (meaning together.user) (step 1 ∷ []) (Fails 1 (fact 1 [])) (Fails 1 (fact 2 [])) first other in
    differ_by (fact 1 []) (fact 2 []) refl (cc)

use Rattle.std.proofs.Common.{refl, sym, ⊎_elim, inl, inr}
use Rattle.std.proofs.lemmas.Bool.{true≢false, or_cases}
use Rattle.model_kit.specs.Same.{same_atom}
use Rattle.model_kit.proofs.Alike.{same_atom-decides}
use Rattle.model_examples.specs.Roads as roads
use Rattle.model_examples.proofs.Runs.{needs_known, adds_known, deletes_known}
use Rattle.model_examples.proofs.plans.steps.Goals as goal

pub returns-clause-needed : goal.returns-clause-needed
returns-clause-needed c = (needs_known roads.planner (roads.go 0 1) (roads.at 0)).0 refl

pub returns-clause-not_needed : goal.returns-clause-not_needed
returns-clause-not_needed c needed = true≢false (sym ((needs_known roads.planner (roads.go 0 1) (roads.at 1)).1 needed))

pub returns-clause-applies : goal.returns-clause-applies
returns-clause-applies c = record {
  priced = refl;
  met = λ a needed.
      ⊎_elim (λ same. sym ((same_atom-decides (roads.at 0) a).0 same)) (λ other. ⊎_elim (λ same. sym ((same_atom-decides (roads.at 0) a).0 same)) (λ none. absurd (true≢false (sym none))) (or_cases (same_atom (roads.at 0) a) _ other))
      (or_cases (same_atom (roads.at 0) a) _ ((needs_known roads.user (roads.go 0 1) a).1 needed));
}

pub returns-clause-unmet : goal.returns-clause-unmet
returns-clause-unmet c applies =
    true≢false (sym ((same_atom-decides (roads.at 0) (roads.at 1)).1 (applies.met (roads.at 0) ((needs_known roads.user (roads.go 0 1) (roads.at 0)).0 refl))))

pub returns-clause-unpriced : goal.returns-clause-unpriced
returns-clause-unpriced c applies = true≢false (sym applies.priced)

pub returns-clause-added : goal.returns-clause-added
returns-clause-added c = inr ((adds_known roads.planner (roads.go 0 1) (roads.at 1)).0 refl)

pub returns-clause-deleted : goal.returns-clause-deleted
returns-clause-deleted c there =
    ⊎_elim (λ kept. kept.1 ((deletes_known roads.planner (roads.go 0 1) (roads.at 0)).0 refl))
    (λ added. true≢false (sym ((adds_known roads.planner (roads.go 0 1) (roads.at 0)).1 added))) there

pub returns-clause-deleted_and_added : goal.returns-clause-deleted_and_added
returns-clause-deleted_and_added c = inr ((adds_known roads.planner (roads.go 0 0) (roads.at 0)).0 refl)

pub returns-clause-kept : goal.returns-clause-kept
returns-clause-kept c = inl (refl, λ gone. true≢false (sym ((deletes_known roads.planner (roads.go 1 2) (roads.at 0)).1 gone)))

pub returns-clause-never_added : goal.returns-clause-never_added
returns-clause-never_added c there =
    ⊎_elim (λ kept. true≢false (sym kept.0)) (λ added. true≢false (sym ((adds_known roads.planner (roads.go 0 1) (roads.at 2)).1 added))) there

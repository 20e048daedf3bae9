-- The user's model after the differences of a list of numbers.
use Rattle.std.proofs.Common.{◌≡◌, ℕ, ◌+◌, Bool, true, false, cond, List, [], ◌∷◌, length, refl, ap, ◌∙◌}
use Rattle.std.specs.FinSet as set
use Rattle.model_kit.specs.declared.action.GroundAction.{GroundAction}
use Rattle.model_kit.specs.declared.model.Model.{Model}
use Rattle.model_kit.specs.Places.{Place, meaning, same_place}
use Rattle.model_kit.specs.Differences.{is_told, patched}
use Rattle.model_kit.specs.Runs.{cost}
use Rattle.model_kit.specs.Sentences.{explanation, explanation_lines}
use Rattle.model_kit.specs.Laws.{task_of}
use Rattle.model_kit.proofs.PatchedLemmas.{after_some}
use Rattle.model_examples.specs.Told.{of}
use Rattle.model_examples.proofs.Sets.{is_among, of_contains, is_normal, numbers_of}

pub patched_of : (planner user : Model) (places : List Place) (xs : List ℕ) → patched (meaning planner) (meaning user) places (of xs) ≡ after_some planner user places (is_among xs)
patched_of planner user places xs =
    let same : set.contains (of xs) ≡ is_among xs = λ i q. of_contains xs q i in
    ap (after_some planner user places) same

-- no place is told
untold : (k : ℕ) (places : List Place) (p : Place) → is_told k places (λ _. false) p ≡ false
untold k [] p = refl
untold k (q ∷ places) p = by (same_place q p) (untold (k + 1) places p)
  where
    by : (b : Bool) → is_told (k + 1) places (λ _. false) p ≡ false → cond b false (is_told (k + 1) places (λ _. false) p) ≡ false
    by true rest = refl
    by false rest = rest

pub patched_none : (planner user : Model) (places : List Place) → patched (meaning planner) (meaning user) places (of []) ≡ meaning user
patched_none planner user places =
    let none : after_some planner user places (is_among []) ≡ meaning user = λ i p. ap (λ b. cond b (meaning planner p) (meaning user p)) (untold 1 places p) i in
    patched_of planner user places [] ∙ none

-- the text of an explanation, by the list of the numbers
pub explanation_by : (kind : List ℕ) (planner user : Model) (places : List Place) (weights : List ℕ) (plan : List GroundAction) (xs : List ℕ) → is_normal (length places) xs ≡ true
    → explanation kind (task_of planner.words planner user places weights plan) (of xs)
    ≡ explanation_lines kind (task_of planner.words planner user places weights plan) xs (cost (after_some planner user places (is_among xs)) plan)
explanation_by kind planner user places weights plan xs normal =
    λ i. explanation_lines kind (task_of planner.words planner user places weights plan) (numbers_of (length places) xs normal i) (cost (patched_of planner user places xs i) plan)

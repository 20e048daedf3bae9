-- Tests that compute, of one model: what an action needs, adds and deletes, which lists are valid and which are cheapest.
use Rattle.std.proofs.Common.{◌≡◌, ℕ, Bool, true, false, List, [], sym, ◌∙◌}
use Rattle.std.specs.Bool.{Decides}
use Rattle.std.specs.List.{list_all}
use Rattle.std.proofs.lemmas.Bool.{true≢false}
use Rattle.model_kit.specs.declared.atom.GroundAtom.{GroundAtom}
use Rattle.model_kit.specs.declared.action.GroundAction.{GroundAction}
use Rattle.model_kit.specs.declared.model.Model.{Model}
use Rattle.model_kit.specs.Vocabulary.{is_ground_action, IsGroundAction}
use Rattle.model_kit.specs.Places.{Pre, Add, Del, meaning}
use Rattle.model_kit.specs.Runs.{Needs, Adds, Deletes, IsValid, IsCheapest}
use Rattle.model_kit.proofs.Distinct.{all_decides}
use Rattle.model_kit.proofs.FiniteLemmas.{IsFinite, makes, makes_decides}
use Rattle.model_kit.proofs.CostLemmas.{is_valid, is_valid-says, is_valid-from, is_cheapest, is_cheapest-says, is_cheaper, is_cheaper-says}
use Rattle.model_kit.proofs.PatchedLemmas.{finite_after}

module _ (model : Model) where
  abbrev fin : IsFinite (meaning model)
  fin = finite_after model model [] (λ _. false)

  abbrev pub needs : GroundAction → GroundAtom → Bool
  needs action = makes model.words (meaning model) fin Pre (fin.pres action.schema) action

  abbrev pub adds : GroundAction → GroundAtom → Bool
  adds action = makes model.words (meaning model) fin Add (fin.adds action.schema) action

  abbrev pub deletes : GroundAction → GroundAtom → Bool
  deletes action = makes model.words (meaning model) fin Del (fin.dels action.schema) action

  pub needs_known : (action : GroundAction) (a : GroundAtom) → Decides (needs action a) (Needs (meaning model) action a)
  needs_known action a = makes_decides model.words (meaning model) fin Pre (fin.pres action.schema) action (fin.pre_listed action.schema) a

  pub adds_known : (action : GroundAction) (a : GroundAtom) → Decides (adds action a) (Adds (meaning model) action a)
  adds_known action a = makes_decides model.words (meaning model) fin Add (fin.adds action.schema) action (fin.add_listed action.schema) a

  pub deletes_known : (action : GroundAction) (a : GroundAtom) → Decides (deletes action a) (Deletes (meaning model) action a)
  deletes_known action a = makes_decides model.words (meaning model) fin Del (fin.dels action.schema) action (fin.del_listed action.schema) a

  pub valid_by : (plan : List GroundAction) → is_valid model.words (meaning model) fin plan ≡ true → IsValid (meaning model) plan
  valid_by plan e = (is_valid-says model.words (meaning model) fin plan e).1

  pub not_valid_by : (plan : List GroundAction) → list_all (is_ground_action model.words) plan ≡ true → is_valid model.words (meaning model) fin plan ≡ false → ¬ IsValid (meaning model) plan
  not_valid_by plan fits e valid =
      true≢false (sym (is_valid-from model.words (meaning model) fin plan ((all_decides (is_ground_action model.words) (IsGroundAction model.words) (λ a. (λ h. h, λ h. h)) plan).0 fits) valid) ∙ e)

  pub cheapest_by : (base : ℕ) (distance : GroundAtom → ℕ) (plan : List GroundAction) → is_cheapest model.words (meaning model) fin base distance plan ≡ true → IsCheapest model.words (meaning model) plan
  cheapest_by base distance plan e = is_cheapest-says model.words (meaning model) fin base distance plan e

  pub not_cheapest_by : (other plan : List GroundAction) → is_cheaper model.words (meaning model) fin other plan ≡ true → ¬ IsCheapest model.words (meaning model) plan
  not_cheapest_by other plan e = is_cheaper-says model.words (meaning model) fin other plan e

-- The atom that a judgement names is a ground atom of the model's vocabulary.
use Rattle.std.proofs.Common.{ℕ, zero, List, ◌∷◌, refl, sym, subst, arith}
use Rattle.std.specs.Prelude.{All, Contains, IsTrue}
use Rattle.std.specs.List.{list_any}
use Rattle.std.proofs.lemmas.List.Elements.{All-contains, Contains-append_right}
use Rattle.model_kit.specs.declared.atom.GroundAtom.{GroundAtom}
use Rattle.model_kit.specs.declared.action.GroundAction.{GroundAction}
use Rattle.model_kit.specs.declared.model.Model.{Model}
use Rattle.model_kit.specs.declared.judging.NamedJudgement.{NamedJudgement}
use Rattle.model_kit.specs.declared.judging.NamedJudgement.TheVariants.{Valid, Fails, NoCost, GoalMissing}
use Rattle.model_kit.specs.Same.{same_atom, same_schema_atom}
use Rattle.model_kit.specs.Vocabulary.{is_ground_atom, is_schema_atom, IsGroundAction}
use Rattle.model_kit.specs.Places.{Goal, meaning}
use Rattle.model_kit.specs.Runs.{State, Has, Needs, Initial}
use Rattle.model_kit.specs.Judgement.{IsFirstPrinted, Lacks, IsOpen, StopsAt, Judges, NamesAtoms}
use Rattle.model_kit.proofs.Alike.{same_atom-decides, same_schema_atom-decides}
use Rattle.model_kit.proofs.ModelFacts.{facts_of_model}
use Rattle.model_kit.proofs.TypeLemmas.{entry_passes}
use Rattle.model_kit.proofs.ActionLemmas.{signature_of, instance_ground, schema_kept}
use Rattle.model_kit.proofs.StepLemmas.{listed_from_any}
use Rattle.model_kit.proofs.RunLemmas.{leads_weaker, leads_constant}

module _ (model : Model) where
  abbrev IsGround : GroundAtom → Type 0
  IsGround atom = IsTrue (is_ground_atom model.words atom)

  -- what a ground action needs
  needed_ground : (action : GroundAction) → IsGroundAction model.words action → (atom : GroundAtom) → Needs (meaning model) action atom → IsGround atom
  needed_ground action fits atom (f, on, is) =
      let entry = entry_passes (λ s. list_any (same_schema_atom f) s.pre) model.schemas action.schema on in
      let kept = schema_kept model action fits entry.0 entry.1 in
      let listed = listed_from_any same_schema_atom same_schema_atom-decides f entry.0.pre entry.2 in
      subst IsGround is (instance_ground model action fits f (All-contains (λ g. IsTrue (is_schema_atom model.words (signature_of model action fits).0.params g)) entry.0.pre f kept.pre_kept.fit listed))

  -- a goal fact
  goal_ground : (atom : GroundAtom) → Has (meaning model) (Goal atom) → IsGround atom
  goal_ground atom on =
      let facts = facts_of_model model in
      All-contains IsGround model.goal atom facts.goal_kept.fit (listed_from_any same_atom same_atom-decides atom model.goal on)

  module _ (plan : List GroundAction) (fits : All (IsGroundAction model.words) plan) where
    -- the action at which a plan stops
    stop_fits : (step : ℕ) (action : GroundAction) (Q : State → Type 0) → StopsAt (meaning model) plan step action Q → IsGroundAction model.words action
    stop_fits step action Q stop =
        All-contains (IsGroundAction model.words) plan action fits
        (subst (λ p. Contains p action) (sym stop.split) (Contains-append_right stop.before (action ∷ stop.after) action (zero, omega arith, refl)))

    pub judged_ground : (judgement : NamedJudgement) → Judges model.words (meaning model) plan judgement → NamesAtoms model.words judgement
    judged_ground (Valid total) said = tt
    judged_ground (Fails step atom) (action, stop) =
        leads_constant (meaning model) (IsGround atom) (Initial (meaning model)) stop.before
        (leads_weaker (meaning model) (λ s. IsFirstPrinted model.words (Lacks (meaning model) action s) atom) (λ _. IsGround atom)
        (λ s first. needed_ground action (stop_fits step action _ stop) atom first.has.0) (Initial (meaning model)) stop.before stop.leads)
    judged_ground (NoCost step) said = tt
    judged_ground (GoalMissing atom) said =
        leads_constant (meaning model) (IsGround atom) (Initial (meaning model)) plan
        (leads_weaker (meaning model) (λ s. IsFirstPrinted model.words (IsOpen (meaning model) s) atom) (λ _. IsGround atom)
        (λ s first. goal_ground atom first.has.0) (Initial (meaning model)) plan said)

-- The judgement of a plan in a model: that it is valid, with its cost, or the first thing that is
-- wrong with it.
use Rattle.std.specs.Prelude.{ℕ, ◌≡◌, ◌≢◌, ◌+◌, List, ◌∷◌, ◌++◌, length, IsNone, IsTrue}
use Rattle.model_kit.specs.declared.vocabulary.Vocabulary.{Vocabulary}
use Rattle.model_kit.specs.declared.atom.GroundAtom.{GroundAtom}
use Rattle.model_kit.specs.declared.action.GroundAction.{GroundAction}
use Rattle.model_kit.specs.declared.judging.NamedJudgement.{NamedJudgement}
use Rattle.model_kit.specs.declared.judging.NamedJudgement.TheVariants.{Valid, Fails, NoCost}
use Rattle.model_kit.specs.declared.judging.NamedJudgement.TheVariants.{GoalMissing}
use Rattle.model_kit.specs.Vocabulary.{is_ground_atom}
use Rattle.model_kit.specs.Places.{Goal, Meaning}
use Rattle.model_kit.specs.Printed.{atom_form}
use Rattle.model_kit.specs.Differences.{IsPrintedBefore}
use Rattle.model_kit.specs.Runs.{State, Has, cost_of, Needs, Leads, Initial, IsValid, cost}

-- the atom has the property, and is printed before each other atom that has it
pub record IsFirstPrinted (words : Vocabulary) (P : GroundAtom → Type 0)
    (atom : GroundAtom) : Type 0 where
  pub has : P atom
  pub first : (other : GroundAtom) → P other → other ≢ atom
      → IsPrintedBefore (atom_form words atom) (atom_form words other)

-- the atom is a precondition of the action and isn't in the state
abbrev pub Lacks : Meaning → GroundAction → State → GroundAtom → Type 0
Lacks model action state atom = Needs model action atom × ¬ state atom

-- the atom is a goal fact and isn't in the state
abbrev pub IsOpen : Meaning → State → GroundAtom → Type 0
IsOpen model state atom = Has model (Goal atom) × ¬ state atom

-- the plan has the action as this step, counted from 1, and the steps before it lead to a state
-- with the property
pub record StopsAt (model : Meaning) (plan : List GroundAction) (step : ℕ) (action : GroundAction)
    (Q : State → Type 0) : Type 0 where
  pub before : List GroundAction
  pub after : List GroundAction
  pub split : plan ≡ before ++ action ∷ after
  pub number : step ≡ length before + 1
  pub leads : Leads model (Initial model) before Q

-- what a judgement says of a plan
abbrev pub Judges : Vocabulary → Meaning → List GroundAction → NamedJudgement → Type 0
Judges words model plan (Valid total) = IsValid model plan × (total ≡ cost model plan)
Judges words model plan (Fails step atom) =
    (action : GroundAction) × StopsAt model plan step action (λ state. IsFirstPrinted words
    (Lacks model action state) atom)
Judges words model plan (NoCost step) =
    (action : GroundAction) × IsNone (cost_of model action)
    × StopsAt model plan step action (λ state. (atom : GroundAtom) → Needs model action atom
    → state atom)
Judges words model plan (GoalMissing atom) =
    Leads model (Initial model) plan (λ state. IsFirstPrinted words (IsOpen model state) atom)

-- the atom that a judgement names, where it names one, is a ground atom of the vocabulary
abbrev pub NamesAtoms : Vocabulary → NamedJudgement → Type 0
NamesAtoms words (Valid total) = Unit {0}
NamesAtoms words (Fails step atom) = IsTrue (is_ground_atom words atom)
NamesAtoms words (NoCost step) = Unit {0}
NamesAtoms words (GoalMissing atom) = IsTrue (is_ground_atom words atom)

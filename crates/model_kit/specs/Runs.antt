-- Steps, valid plans, their costs, and cheapest plans (STRIPS, Fikes and Nilsson 1971, with the
-- action costs of PDDL).
-- A state is given by the atoms that are true in it.
use Rattle.std.specs.Prelude.{ℕ, ◌≡◌, ◌≤◌, ◌⊎◌, Bool, false, IsTrue, if◌then◌else◌, List, [], ◌∷◌}
use Rattle.std.specs.Prelude.{Option, None, Some, IsSome, map, All, sum_by, unwrap_or, slice_index}
use Rattle.model_kit.specs.declared.vocabulary.Vocabulary.{Vocabulary}
use Rattle.model_kit.specs.declared.atom.SchemaAtom.{SchemaAtom}
use Rattle.model_kit.specs.declared.atom.GroundAtom.{GroundAtom}
use Rattle.model_kit.specs.declared.atom.Term.{Term}
use Rattle.model_kit.specs.declared.atom.Term.TheVariants.{Param, Object}
use Rattle.model_kit.specs.declared.action.GroundAction.{GroundAction}
use Rattle.model_kit.specs.declared.model.CostExpr.TheVariants.{Number, Call}
use Rattle.model_kit.specs.Vocabulary.{IsGroundAction}
use Rattle.model_kit.specs.Places.{Place, Init, Goal, Knows, Pre, Add, Del, Cost, Value, Content}
use Rattle.model_kit.specs.Places.{Feature, Price, Worth, Meaning}

abbrev pub State : Type 1
State = GroundAtom → Type 0

-- the object of a term, where objects are put in for the parameters
abbrev pub object_of : List ℕ → Term → ℕ
object_of objects (Param i) = slice_index objects i
object_of objects (Object object) = object

-- the atom with the objects put in
abbrev pub instance : List ℕ → SchemaAtom → GroundAtom
instance objects atom =
    record { predicate = atom.predicate; objects = map (object_of objects) atom.args }

abbrev pub is_on : Content → Bool
is_on (Feature on) = on
is_on _ = false

-- a feature is on in a model
abbrev pub Has : Meaning → Place → Type 0
Has model place = IsTrue (is_on (model place))

-- the value of a function, which may be absent
abbrev pub worth : Content → Option ℕ
worth (Worth value) = value
worth _ = None

-- the number of a cost expression, or the value of its function at the objects
abbrev pub price_of : Meaning → List ℕ → Content → Option ℕ
price_of model objects (Price (Number n)) = Some n
price_of model objects (Price (Call f args)) =
    worth (model (Value f (map (object_of objects) args)))
price_of model objects _ = None

-- what a ground action costs in a model, if it has a cost there; an action that the model doesn't
-- know has none
abbrev pub cost_of : Meaning → GroundAction → Option ℕ
cost_of model action =
    if is_on (model (Knows action.schema)) then price_of model action.objects
    (model (Cost action.schema)) else None

-- the atom is a precondition of the action, is added by it, is deleted by it
abbrev pub Needs : Meaning → GroundAction → GroundAtom → Type 0
Needs model action atom =
    (f : SchemaAtom) × Has model (Pre action.schema f) × (instance action.objects f ≡ atom)

abbrev pub Adds : Meaning → GroundAction → GroundAtom → Type 0
Adds model action atom =
    (f : SchemaAtom) × Has model (Add action.schema f) × (instance action.objects f ≡ atom)

abbrev pub Deletes : Meaning → GroundAction → GroundAtom → Type 0
Deletes model action atom =
    (f : SchemaAtom) × Has model (Del action.schema f) × (instance action.objects f ≡ atom)

-- the action has a cost, and its preconditions are in the state
pub record Applies (model : Meaning) (state : State) (action : GroundAction) : Type 0 where
  pub priced : IsSome (cost_of model action)
  pub met : (atom : GroundAtom) → Needs model action atom → state atom

-- the successor: the state without the deletes, and then with the adds
abbrev pub After : Meaning → State → GroundAction → State
After model state action atom = (state atom × ¬ Deletes model action atom) ⊎ Adds model action atom

-- the actions apply one after another, and the last state has the property
abbrev pub Leads : Meaning → State → List GroundAction → (State → Type 0) → Type 0
Leads model state [] Q = Q state
Leads model state (action ∷ actions) Q =
    Applies model state action × Leads model (After model state action) actions Q

-- the initial facts, and the states that have the goal facts
abbrev pub Initial : Meaning → State
Initial model atom = Has model (Init atom)

abbrev pub IsGoal : Meaning → State → Type 0
IsGoal model state = (atom : GroundAtom) → Has model (Goal atom) → state atom

-- the actions apply one after another from the initial facts, and the goal facts are in the last
-- state
abbrev pub IsValid : Meaning → List GroundAction → Type 0
IsValid model plan = Leads model (Initial model) plan (IsGoal model)

-- the sum of the costs of the steps
abbrev pub cost : Meaning → List GroundAction → ℕ
cost model plan = sum_by (λ action. unwrap_or (cost_of model action) 0) plan

-- valid, and no valid list of ground actions, of any length, costs less
pub record IsCheapest (words : Vocabulary) (model : Meaning)
    (plan : List GroundAction) : Type 0 where
  pub valid : IsValid model plan
  pub least : (other : List GroundAction) → All (IsGroundAction words) other → IsValid model other
      → cost model plan ≤ cost model other

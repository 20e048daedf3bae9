-- How a plan is judged: the state is kept as an ordered set of its atoms, and the function values
-- as an ordered map.
use Rattle.std.specs.Prelude.{ℕ, ◌≡◌, ◌<◌, ◌↔◌, ◌&&◌, ◌||◌, not, Bool, IsTrue, IsNone, Option, None}
use Rattle.std.specs.Prelude.{Some, if◌then◌else◌, List, length, All, Contains, map}
use Rattle.std.specs.List.{list_any}
use Rattle.std.specs.Ordering.{nat_cmp, is_lt, on, then_cmp}
use Rattle.std.specs.declared.cmp.Ordering.{Ordering}
use Rattle.std.specs.Cmp.Lexicographic.{slice_cmp}
use Rattle.std.specs.BTreeSet.{BTreeSet, contains}
use Rattle.std.specs.BTreeMap.{BTreeMap, get}
use Rattle.model_kit.specs.declared.vocabulary.Vocabulary.{Vocabulary}
use Rattle.model_kit.specs.declared.atom.GroundAtom.{GroundAtom}
use Rattle.model_kit.specs.declared.atom.SchemaAtom.{SchemaAtom}
use Rattle.model_kit.specs.declared.atom.Term.{Term}
use Rattle.model_kit.specs.declared.atom.Term.TheVariants.{Param}
use Rattle.model_kit.specs.declared.action.GroundAction.{GroundAction}
use Rattle.model_kit.specs.declared.values.FunctionTerm.{FunctionTerm}
use Rattle.model_kit.specs.declared.judging.Step.{Step}
use Rattle.model_kit.specs.declared.judging.Step.TheVariants.{Taken, Unmet, Unpriced}
use Rattle.model_kit.specs.Same.{same_atom}
use Rattle.model_kit.specs.Places.{Meaning, value_of}
use Rattle.model_kit.specs.Runs.{State, instance, cost_of, Needs, Applies, After}
use Rattle.model_kit.specs.Judgement.{IsFirstPrinted, Lacks}

abbrev pub atom_cmp : GroundAtom → GroundAtom → Ordering
atom_cmp = then_cmp (on (λ a. a.predicate) nat_cmp) (on (λ a. a.objects) (slice_cmp nat_cmp))

abbrev pub term_cmp : FunctionTerm → FunctionTerm → Ordering
term_cmp = then_cmp (on (λ t. t.function) nat_cmp) (on (λ t. t.objects) (slice_cmp nat_cmp))

-- the atom is in the set
abbrev pub has : BTreeSet GroundAtom → GroundAtom → Bool
has state atom = contains atom_cmp state atom

-- the state that a set keeps
abbrev pub StateOf : BTreeSet GroundAtom → State
StateOf state atom = IsTrue (has state atom)

-- the map gives each value of the list
abbrev pub IsTableOf : List (ℕ × List ℕ × ℕ) → BTreeMap FunctionTerm ℕ → Type 0
IsTableOf values table =
    (term : FunctionTerm) → get term_cmp table term ≡ value_of values term.function term.objects

-- each parameter among the terms has an object
abbrev pub ArePlaced : List ℕ → List Term → Type 0
ArePlaced objects terms = All (λ term. (i : ℕ) → term ≡ Param i → i < length objects) terms

-- the atom is listed and isn't in the state
abbrev pub IsMissing : List GroundAtom → BTreeSet GroundAtom → GroundAtom → Type 0
IsMissing atoms state atom = Contains atoms atom × ¬ StateOf state atom

-- the place whose text comes first: the earliest so far, if there is one, or a further place
abbrev pub earlier_of : Option (ℕ × List ℕ) → ℕ → List ℕ → Option (ℕ × List ℕ)
earlier_of None place text = Some (place, text)
earlier_of (Some best) place text =
    if is_lt (slice_cmp nat_cmp text best.1) then Some (place, text) else Some best

-- the deletes are out, and the adds are in
abbrev pub Changes : List ℕ → List SchemaAtom → List SchemaAtom → BTreeSet GroundAtom
    → BTreeSet GroundAtom → Type 0
Changes objects dels adds old new =
    (atom : GroundAtom) → has new atom ≡ ((has old atom
    && not (list_any (same_atom atom) (map (instance objects) dels)))
    || list_any (same_atom atom) (map (instance objects) adds))

-- the outcome of one step
abbrev pub Steps : Vocabulary → Meaning → GroundAction → BTreeSet GroundAtom → BTreeSet GroundAtom
    → Step → Type 0
Steps words model action old new (Taken price) =
    Applies model (StateOf old) action × (cost_of model action ≡ Some price)
    × ((atom : GroundAtom) → StateOf new atom ↔ After model (StateOf old) action atom)
Steps words model action old new (Unmet atom) =
    IsFirstPrinted words (Lacks model action (StateOf old)) atom
Steps words model action old new Unpriced =
    ((atom : GroundAtom) → Needs model action atom → StateOf old atom)
    × IsNone (cost_of model action)

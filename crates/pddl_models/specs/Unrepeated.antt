-- How lists without repeats are made: an entry goes to the end unless the numbers that distinguish
-- it were seen before.
use Rattle.std.specs.Prelude.{ℕ, ◌≡◌, Bool, List, [], ◌∷◌, ◌++◌, if◌then◌else◌}
use Rattle.std.specs.BTreeSet.{contains}
use Rattle.std.specs.Cmp.Lexicographic.{slice_cmp}
use Rattle.std.specs.List.{list_any}
use Rattle.std.specs.Ordering.{nat_cmp}
use Rattle.model_kit.specs.declared.atom.GroundAtom.{GroundAtom}
use Rattle.model_kit.specs.declared.atom.SchemaAtom.{SchemaAtom}
use Rattle.model_kit.specs.declared.atom.Term.{Term}
use Rattle.model_kit.specs.declared.atom.Term.TheVariants.{Param, Object}
use Rattle.model_kit.specs.Same.{same_numbers}
use Rattle.pddl_models.specs.declared.unrepeated.Seen.{Seen}

-- the entry goes to the end unless an entry before it is the same
abbrev pub with_first : {X : Type 0} → (X → X → Bool) → List X → X → List X
with_first same entries x = if list_any (λ y. same y x) entries then entries else entries ++ x ∷ []

-- two entries have the same numbers
abbrev pub same_by : {X : Type 0} → (X → List ℕ) → X → X → Bool
same_by key_of x y = same_numbers (key_of x) (key_of y)

-- ---- the numbers that distinguish entries

-- the predicate and the objects of an atom
abbrev pub atom_key : GroundAtom → List ℕ
atom_key atom = atom.predicate ∷ atom.objects

-- the function and the objects of a value
abbrev pub value_key : ℕ × List ℕ × ℕ → List ℕ
value_key value = value.0 ∷ value.1

-- a parameter or an object, before what distinguishes the further terms
abbrev pub term_key : Term → List ℕ → List ℕ
term_key (Param i) more = 0 ∷ i ∷ more
term_key (Object i) more = 1 ∷ i ∷ more

abbrev pub terms_key : List Term → List ℕ
terms_key [] = []
terms_key (term ∷ terms) = term_key term (terms_key terms)

-- the predicate and the terms of an atom
abbrev pub schema_atom_key : SchemaAtom → List ℕ
schema_atom_key atom = atom.predicate ∷ terms_key atom.args

-- ---- what was seen

-- these numbers were seen
abbrev pub has_key : Seen → List ℕ → Bool
has_key seen numbers = contains (slice_cmp nat_cmp) seen.keys numbers

-- the numbers of each entry were seen, and no others
abbrev pub AreSeen : {X : Type 0} → (X → List ℕ) → List X → Seen → Type 0
AreSeen key_of entries seen =
    (numbers : List ℕ) → has_key seen numbers
    ≡ list_any (λ x. same_numbers (key_of x) numbers) entries

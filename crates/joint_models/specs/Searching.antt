-- How the first disagreement is looked for.
use Rattle.std.specs.Prelude.{ℕ, Bool, List, ◌++◌, Option, None, Some, Contains, MatchOption}
use Rattle.std.specs.Prelude.{if◌then◌else◌}
use Rattle.std.specs.Cmp.Lexicographic.{pointwise, slice_cmp}
use Rattle.std.specs.Ordering.{nat_cmp, is_lt}
use Rattle.model_kit.specs.declared.vocabulary.Vocabulary.{Vocabulary}
use Rattle.model_kit.specs.Same.{same_numbers}
use Rattle.model_kit.specs.Pairs.{type_name}
use Rattle.joint_models.specs.Disagreements.{IsEarliest}

-- types of two vocabularies have the same names, place by place
abbrev pub have_same_types : Vocabulary → Vocabulary → List ℕ → List ℕ → Bool
have_same_types one two = pointwise (λ t u. same_numbers (type_name one t) (type_name two u))

-- of a name, if there was one, and a further name the one that comes first
abbrev pub earlier_of : Option (List ℕ) → List ℕ → List ℕ
earlier_of None name = name
earlier_of (Some first) name = (if is_lt (slice_cmp nat_cmp name first) then name else first)

-- nothing has the property, or this is the first that has it
abbrev pub IsFound : Type 0 → (List ℕ → Type 0) → Option (List ℕ) → Type 0
IsFound None_is Property least = MatchOption least None_is (IsEarliest Property)

-- a name that was seen, and has the property
abbrev pub SeenWith : (List ℕ → Type 0) → List (List ℕ) → List ℕ → Type 0
SeenWith Property seen name = Contains seen name × Property name

-- the first of those that were seen and have the property, if there is one
abbrev pub IsFirstSeen : (List ℕ → Type 0) → List (List ℕ) → Option (List ℕ) → Type 0
IsFirstSeen Property seen least =
    IsFound ((name : List ℕ) → ¬ SeenWith Property seen name) (SeenWith Property seen) least

-- the search goes on from what was found before over further names
abbrev pub GoesOn : (List ℕ → Type 0) → List (List ℕ) → Option (List ℕ) → Option (List ℕ) → Type 0
GoesOn Property further before after =
    (seen : List (List ℕ)) → IsFirstSeen Property seen before
    → IsFirstSeen Property (seen ++ further) after

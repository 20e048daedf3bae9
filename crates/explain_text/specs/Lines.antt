-- The lines of an explanation, from the list of all differences, the numbers of the told ones, and
-- the plan's cost after them.
use Rattle.std.specs.Prelude.{ℕ, ◌-◌, ◌≤◌, List, [], ◌∷◌, ◌++◌, map, length, codes, decimal}
use Rattle.std.specs.Prelude.{slice_get, Bool, not, IsTrue}
use Rattle.std.specs.Option.{option_map_or}
use Rattle.std.specs.Ordering.{nat_cmp}
use Rattle.std.specs.FinSet as set
use Rattle.mre_base.specs.declared.kind.Kind.{Kind}
use Rattle.mre_base.specs.declared.kind.Kind.TheVariants.{Mce, Mme}
use Rattle.model_kit.specs.declared.vocabulary.Vocabulary.{Vocabulary}
use Rattle.model_kit.specs.Places.{Place, Feature}
use Rattle.model_kit.specs.Sentences.{sentence, line}
use Rattle.feature_diff.specs.declared.difference.Difference.{Difference}
use Rattle.feature_diff.specs.Differing.{place_of, planner_content, user_content}

-- the name of a kind
abbrev pub kind_name : Kind → List ℕ
kind_name Mce = codes "mce"
kind_name Mme = codes "mme"

-- the sentence of a difference
abbrev pub sentence_of : Vocabulary → Difference → List ℕ
sentence_of words difference =
    sentence words (planner_content difference) (user_content difference) (place_of difference)

-- the sentence of a feature that one of the two models has and the other lacks
abbrev pub feature_sentence : Vocabulary → Bool → Place → List ℕ
feature_sentence words planner_has place =
    sentence words (Feature planner_has) (Feature (not planner_has)) place

-- `NUMBER SENTENCE` of the difference with a number, which counts from 1
abbrev pub numbered_line : Vocabulary → List Difference → ℕ → List ℕ
numbered_line words differences n =
    option_map_or (λ difference. line (decimal n ++ codes " " ++ sentence_of words difference))
    (slice_get differences (n - 1)) []

-- a head, and the lines of the differences with these numbers
abbrev pub list_lines : List ℕ → Vocabulary → List Difference → List ℕ → List (List ℕ)
list_lines head words differences chosen = line head ∷ map (numbered_line words differences) chosen

-- `KIND K of D`, the lines of the differences with these numbers, and `cost C`
abbrev pub lines_of : Kind → Vocabulary → List Difference → List ℕ → ℕ → List (List ℕ)
lines_of kind words differences told cost =
    list_lines (kind_name kind ++ codes " " ++ decimal (length told) ++ codes " of "
    ++ decimal (length differences)) words differences told
    ++ line (codes "cost " ++ decimal cost) ∷ []

-- each number is that of a difference; they count from 1
abbrev pub AreAmong : ℕ → set.FinSet nat_cmp → Type 0
AreAmong count told = (k : ℕ) → IsTrue (set.contains told k) → (1 ≤ k) × (k ≤ count)

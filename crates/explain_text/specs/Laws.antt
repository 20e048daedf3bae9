-- The lines of an explanation are the text that the definitions give for two models.
use Rattle.std.specs.Prelude.{ℕ, ◌≡◌, List, ◌++◌, flat_map, length, All}
use Rattle.std.specs.Ordering.{nat_cmp}
use Rattle.std.specs.FinSet as set
use Rattle.mre_base.specs.Before.{numbers}
use Rattle.mre_base.specs.declared.kind.Kind.{Kind}
use Rattle.model_kit.specs.Differences.{patched}
use Rattle.model_kit.specs.Runs.{cost}
use Rattle.model_kit.specs.Explanations.{Task}
use Rattle.model_kit.specs.Sentences.{line, difference_line, explanation_lines, explanation}
use Rattle.feature_diff.specs.declared.difference.Difference.{Difference}
use Rattle.feature_diff.specs.Differing.{Says, places_of}
use Rattle.explain_text.specs.Lines.{kind_name, list_lines, lines_of}

-- the differences are those at a task's places, each with its content in both models
pub record AreOf (task : Task) (differences : List Difference) : Type 0 where
  pub places : task.places ≡ places_of differences
  pub each : All (Says task.planner task.user) differences

-- the lines, one after another
abbrev pub text_in : List (List ℕ) → List ℕ
text_in lines = flat_map (λ line. line) lines

-- for each task with these differences, a list under a head is the head's line and the lines of the
-- differences with these numbers
abbrev pub ListLaw : List Difference → Type 0
ListLaw differences =
    (task : Task) → AreOf task differences → (head chosen : List ℕ) →
    text_in (list_lines head task.words differences chosen)
    ≡ line head ++ flat_map (difference_line task) chosen

-- for each task with these differences, the lines are the text for the differences with these
-- numbers and the cost
abbrev pub LinesLaw : Kind → List Difference → List ℕ → ℕ → Type 0
LinesLaw kind differences told price =
    (task : Task) → AreOf task differences →
    text_in (lines_of kind task.words differences told price)
    ≡ explanation_lines (kind_name kind) task told price

-- if the cost is the plan's after those differences, that text is the task's explanation
abbrev pub TextLaw : Kind → List Difference → set.FinSet nat_cmp → ℕ → Type 0
TextLaw kind differences told price =
    (task : Task) → AreOf task differences
    → price ≡ cost (patched task.planner task.user task.places told) task.plan →
    text_in (lines_of kind task.words differences (numbers (length differences) told) price)
    ≡ explanation (kind_name kind) task told

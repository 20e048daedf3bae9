-- The lines of an explanation are the text that the definitions give for two models.
use Rattle.std.proofs.Common.{◌≡◌, ℕ, ◌-◌, Option, None, Some, List, [], ◌∷◌, ◌++◌, length, map, append_assoc, refl, sym, ap, ◌∙◌}
use Rattle.std.specs.Prelude.{codes, decimal, slice_get, flat_map}
use Rattle.std.specs.Option.{option_map_or, option_map}
use Rattle.std.specs.Ordering.{nat_cmp}
use Rattle.std.specs.FinSet as set
use Rattle.std.proofs.lemmas.Option.{slice_get-map}
use Rattle.std.proofs.lemmas.List.{length-map, append-nil}
use Rattle.std.proofs.lemmas.List.Concat.{flat_map-append}
use Rattle.mre_base.specs.Before.{numbers}
use Rattle.mre_base.specs.declared.kind.Kind.{Kind}
use Rattle.model_kit.specs.declared.vocabulary.Vocabulary.{Vocabulary}
use Rattle.model_kit.specs.Places.{Meaning}
use Rattle.model_kit.specs.Differences.{patched}
use Rattle.model_kit.specs.Runs.{cost}
use Rattle.model_kit.specs.Explanations.{Task}
use Rattle.model_kit.specs.Sentences.{sentence, line, difference_line, explanation_lines, explanation}
use Rattle.mre_base.proofs.Loops.{All_item}
use Rattle.feature_diff.specs.declared.difference.Difference.{Difference}
use Rattle.feature_diff.specs.Differing.{Says, place_of}
use Rattle.explain_text.specs.Lines.{kind_name, sentence_of, numbered_line, list_lines, lines_of}
use Rattle.explain_text.specs.Laws.{AreOf, text_in}

-- the sentence of a place's contents is that of the difference
sentence_is : (words : Vocabulary) (planner user : Meaning) (difference : Difference) → Says planner user difference
    → sentence_of words difference ≡ sentence words (planner (place_of difference)) (user (place_of difference)) (place_of difference)
sentence_is words planner user difference says = λ i. sentence words (sym says.planner_has i) (sym says.user_has i) (place_of difference)

-- so a line is that of the place at the same number
line_at : (words : Vocabulary) (planner user : Meaning) (n : ℕ) (found : Option Difference) → ((difference : Difference) → found ≡ Some difference → Says planner user difference)
    → option_map_or (λ difference. line (decimal n ++ codes " " ++ sentence_of words difference)) found []
    ≡ option_map_or (λ place. line (decimal n ++ codes " " ++ sentence words (planner place) (user place) place)) (option_map place_of found) []
line_at words planner user n None says = refl
line_at words planner user n (Some difference) says = ap (λ said. line (decimal n ++ codes " " ++ said)) (sentence_is words planner user difference (says difference refl))

module _ (task : Task) (differences : List Difference) (are : AreOf task differences) where
  line_is : (n : ℕ) → numbered_line task.words differences n ≡ difference_line task n
  line_is n =
      line_at task.words task.planner task.user n (slice_get differences (n - 1)) (λ difference at. All_item differences (n - 1) difference at (Says task.planner task.user) are.each)
      ∙ ap (λ found. option_map_or (λ place. line (decimal n ++ codes " " ++ sentence task.words (task.planner place) (task.user place) place)) found [])
      (sym (slice_get-map place_of differences (n - 1)) ∙ ap (λ places. slice_get places (n - 1)) (sym are.places))

  each_line : (told : List ℕ) → flat_map (λ line. line) (map (numbered_line task.words differences) told) ≡ flat_map (difference_line task) told
  each_line [] = refl
  each_line (n ∷ told) = λ i. line_is n i ++ each_line told i

  -- the lines of a list are its head's line and the text of the chosen numbers
  pub list_holds : (head chosen : List ℕ) → text_in (list_lines head task.words differences chosen) ≡ line head ++ flat_map (difference_line task) chosen
  list_holds head chosen = ap (λ rest. line head ++ rest) (each_line chosen)

  as_many : length differences ≡ length task.places
  as_many = sym (ap length are.places ∙ length-map differences place_of)

  -- the lines of some numbers are the text of these numbers
  pub lines_hold : (kind : Kind) (told : List ℕ) (price : ℕ) → text_in (lines_of kind task.words differences told price) ≡ explanation_lines (kind_name kind) task told price
  lines_hold kind told price =
      ap (λ rest. head (length differences) ++ rest) (flat_map-append (λ line. line) (map (numbered_line task.words differences) told) (cost_line ∷ []))
      ∙ (λ i. head (as_many i) ++ (each_line told i ++ append-nil cost_line i))
      ∙ sym (append_assoc (head (length task.places)) (flat_map (difference_line task) told) cost_line)
    where
      head : ℕ → List ℕ
      head count = line (kind_name kind ++ codes " " ++ decimal (length told) ++ codes " of " ++ decimal count)

      cost_line : List ℕ
      cost_line = line (codes "cost " ++ decimal price)

  -- if the cost is the plan's after the told differences, the text is the explanation
  pub text_holds : (kind : Kind) (told : set.FinSet nat_cmp) (price : ℕ) → price ≡ cost (patched task.planner task.user task.places told) task.plan
      → text_in (lines_of kind task.words differences (numbers (length differences) told) price) ≡ explanation (kind_name kind) task told
  text_holds kind told price paid =
      lines_hold kind (numbers (length differences) told) price
      ∙ (λ i. explanation_lines (kind_name kind) task (numbers (as_many i) told) (paid i))

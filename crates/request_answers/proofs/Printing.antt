-- The printed lines of an explanation are the text of the explanation.
use Rattle.std.proofs.Common.{◌≡◌, ℕ, ◌-◌, List, [], ◌∷◌, ◌++◌, length, map, Option, None, Some, refl, sym, ap, ◌∙◌}
use Rattle.std.specs.Prelude.{All, codes, decimal, flat_map, slice_get}
use Rattle.std.specs.List.{concat}
use Rattle.std.specs.Option.{option_map, option_map_or}
use Rattle.std.specs.Ordering.{nat_cmp}
use Rattle.std.specs.FinSet as set
use Rattle.std.proofs.lemmas.List.{length-map, append-nil}
use Rattle.std.proofs.lemmas.List.Folds.{concat-append}
use Rattle.std.proofs.lemmas.Option.{slice_get-map}
use Rattle.mre_base.specs.Before.{numbers}
use Rattle.mre_base.specs.declared.kind.Kind.TheVariants.{Mce}
use Rattle.model_kit.specs.declared.model.Model.{Model}
use Rattle.model_kit.specs.declared.action.GroundAction.{GroundAction}
use Rattle.model_kit.specs.Places.{Place, meaning}
use Rattle.model_kit.specs.Differences.{patched}
use Rattle.model_kit.specs.Runs.{cost}
use Rattle.model_kit.specs.Sentences.{sentence, line, difference_line, explanation_lines, explanation}
use Rattle.mre_base.proofs.Loops.{All_item}
use Rattle.feature_diff.specs.declared.difference.Difference.{Difference}
use Rattle.feature_diff.specs.Differing.{place_of, planner_content, user_content, places_of, Says}
use Rattle.explain_text.specs.Lines.{numbered_line, lines_of}
use Rattle.request_answers.specs.Tasks.{even_task}

option_same : (o : Option Difference) (F : Place → List ℕ) (G : Difference → List ℕ) → ((d : Difference) → o ≡ Some d → F (place_of d) ≡ G d)
    → option_map_or G o [] ≡ option_map_or F (option_map place_of o) []
option_same None F G same = refl
option_same (Some d) F G same = sym (same d refl)

joined_lines : (f g : ℕ → List ℕ) → ((n : ℕ) → f n ≡ g n) → (ns : List ℕ) → concat (map f ns) ≡ flat_map g ns
joined_lines f g same [] = refl
joined_lines f g same (n ∷ ns) = λ i. same n i ++ joined_lines f g same ns i

module _ (planner user : Model) (differences : List Difference) (plan : List GroundAction) (says : All (Says (meaning planner) (meaning user)) differences) where
  -- a numbered line is that of the content in the two models
  line_same : (n : ℕ) → numbered_line planner.words differences n ≡ difference_line (even_task planner user differences plan) n
  line_same n =
      let F : Place → List ℕ = λ place. line (decimal n ++ codes " " ++ sentence planner.words (meaning planner place) (meaning user place) place) in
      let G : Difference → List ℕ = λ d. line (decimal n ++ codes " " ++ sentence planner.words (planner_content d) (user_content d) (place_of d)) in
      let at : (d : Difference) → slice_get differences (n - 1) ≡ Some d → F (place_of d) ≡ G d =
      λ d there.
      let said = All_item differences (n - 1) d there (Says (meaning planner) (meaning user)) says in
      λ i. line (decimal n ++ codes " " ++ sentence planner.words (said.planner_has i) (said.user_has i) (place_of d)) in
      option_same (slice_get differences (n - 1)) F G at ∙ ap (λ o. option_map_or F o []) (sym (slice_get-map place_of differences (n - 1)))

  -- the lines of the told differences and the plan's cost after them, one after another
  pub lines_are : (told : set.FinSet nat_cmp) (price : ℕ) (lines : List (List ℕ))
      → lines ≡ lines_of Mce planner.words differences (numbers (length differences) told) price
      → price ≡ cost (patched (meaning planner) (meaning user) (places_of differences) told) plan
      → concat lines ≡ explanation (codes "mce") (even_task planner user differences plan) told
  lines_are told price lines are costs =
      let task = even_task planner user differences plan in
      let count : length differences ≡ length (places_of differences) = sym (length-map differences place_of) in
      let ns = numbers (length differences) told in
      let head = line (codes "mce" ++ codes " " ++ decimal (length ns) ++ codes " of " ++ decimal (length differences)) in
      let last = line (codes "cost " ++ decimal price) in
      let middle = map (numbered_line planner.words differences) ns in
      let flat : concat (lines_of Mce planner.words differences ns price) ≡ head ++ concat middle ++ last =
      concat-append (head ∷ middle) (last ∷ []) ∙ ap (λ x. head ++ concat middle ++ x) (append-nil last) in
      let told_lines : head ++ concat middle ++ last ≡ head ++ flat_map (difference_line task) ns ++ last =
      ap (λ x. head ++ x ++ last) (joined_lines (numbered_line planner.words differences) (difference_line task) line_same ns) in
      let counted : head ++ flat_map (difference_line task) ns ++ last
      ≡ explanation_lines (codes "mce") task (numbers (length (places_of differences)) told) (cost (patched (meaning planner) (meaning user) (places_of differences) told) plan) =
      λ i. line (codes "mce" ++ codes " " ++ decimal (length (numbers (count i) told)) ++ codes " of " ++ decimal (count i))
      ++ flat_map (difference_line task) (numbers (count i) told) ++ line (codes "cost " ++ decimal (costs i)) in
      ap concat are ∙ flat ∙ told_lines ∙ counted

-- The lines of a list of differences, one after another, are the printed list.
use Rattle.std.proofs.Common.{◌≡◌, ℕ, List, [], ◌∷◌, ◌++◌, length, refl, sym, ap, ◌∙◌}
use Rattle.std.specs.Prelude.{All, flat_map}
use Rattle.std.specs.List.{concat}
use Rattle.std.specs.Ordering.{nat_cmp}
use Rattle.std.specs.FinSet as set
use Rattle.std.proofs.lemmas.List.{length-map}
use Rattle.mre_base.specs.Before.{numbers, count_of}
use Rattle.model_kit.specs.declared.model.Model.{Model}
use Rattle.model_kit.specs.declared.action.GroundAction.{GroundAction}
use Rattle.model_kit.specs.Places.{meaning}
use Rattle.model_kit.specs.Sentences.{line, difference_line}
use Rattle.feature_diff.specs.declared.difference.Difference.{Difference}
use Rattle.feature_diff.specs.Differing.{place_of, places_of, Says}
use Rattle.explain_text.specs.Laws.{AreOf, text_in}
use Rattle.explain_text.specs.Lines.{list_lines}
use Rattle.explain_text.proofs.LawLemmas.{list_holds}
use Rattle.mre_words.specs.declared.request.Request.{Request}
use Rattle.request_answers.specs.Outputs.{list_head, listing}
use Rattle.request_answers.specs.Tasks.{even_task}

joined : (lines : List (List ℕ)) → concat lines ≡ text_in lines
joined [] = refl
joined (l ∷ lines) = ap (λ rest. l ++ rest) (joined lines)

module _ (planner user : Model) (differences : List Difference) (plan : List GroundAction) (says : All (Says (meaning planner) (meaning user)) differences) where
  pub listing_is : (request : Request) (chosen : set.FinSet nat_cmp) (head : List ℕ) (lines : List (List ℕ))
      → lines ≡ list_lines head planner.words differences (numbers (length differences) chosen) → head ≡ list_head request (count_of chosen) (length differences)
      → concat lines ≡ listing request (even_task planner user differences plan) chosen
  listing_is request chosen head lines are is =
      let task = even_task planner user differences plan in
      let of : AreOf task differences = record { places = refl; each = says } in
      let count : length differences ≡ length (places_of differences) = sym (length-map differences place_of) in
      joined lines ∙ ap text_in are ∙ list_holds task differences of head (numbers (length differences) chosen)
      ∙ ap (λ h. line h ++ flat_map (difference_line task) (numbers (length differences) chosen)) is
      ∙ ap (λ n. line (list_head request (count_of chosen) n) ++ flat_map (difference_line task) (numbers n chosen)) count

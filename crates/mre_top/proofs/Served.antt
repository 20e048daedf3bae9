-- A request that ends after all its files were read: with an answer, with a failed write, or where
-- memory ran out.
use Rattle.std.proofs.Common.{◌≡◌, ℕ, List, length, Option, Some, subst, ◌∙◌, refl, sym, ap, arith}
use Rattle.std.specs.Ordering.{nat_cmp}
use Rattle.std.specs.FinSet as set
use Rattle.std.proofs.lemmas.List.{take_all}
use Rattle.mre_outside.specs.Shelves.{Files}
use Rattle.mre_outside.specs.declared.shelf.ShelfCall.{ShelfCall}
use Rattle.mre_words.specs.declared.request.Request.{Request}
use Rattle.mre_words.specs.Requests.{names_in, files_of}
use Rattle.request_answers.specs.Outputs.{IsAnswer}
use Rattle.mre_top.specs.declared.refusal.Refusal.TheVariants.{WriteFailed, NoMemory}
use Rattle.mre_top.specs.Calls.{ShelfChange}
use Rattle.mre_top.specs.Causes.{AreAnswered}
use Rattle.mre_top.specs.Endings.{IsRefused}
use Rattle.mre_top.specs.Reads.{AreRead, asked_then, reads}

module _ (asks : Option Request) (shelf : ShelfChange) (asked : shelf.asked.new ≡ asked_then shelf.asked.old (reads (names_in asks))) where
  pub served_memory : IsRefused asks shelf NoMemory
  served_memory = record {
    calls = reads (names_in asks);
    cause = (length (names_in asks), omega arith, ap reads (sym (take_all (length (names_in asks)) (names_in asks) (omega arith))));
    asked = asked;
  }

  pub served_unwritten : (told : set.FinSet nat_cmp) (text : List ℕ) → AreAnswered asks shelf.held.old told text → IsRefused asks shelf WriteFailed
  served_unwritten told text answered = record { calls = reads (names_in asks); cause = ((told, text, answered), refl); asked = asked }

-- the files of a request, by the names that were passed on
module _ (request : Request) (shown : List (List ℕ)) (e : shown ≡ files_of request) where
  pub asked_of : (old new : Option (List ShelfCall)) → new ≡ asked_then old (reads shown) → new ≡ asked_then old (reads (files_of request))
  asked_of old new asked = asked ∙ ap (λ names. asked_then old (reads names)) e

  pub answered_of : (held : Option Files) (contents : List (List ℕ)) → AreRead held shown contents → (told : set.FinSet nat_cmp) (text : List ℕ) → IsAnswer request contents told text
      → AreAnswered (Some request) held told text
  answered_of held contents read told text answer =
      record { request = request; asked = refl; contents = contents; read = subst (λ names. AreRead held names contents) e read; answer = answer }

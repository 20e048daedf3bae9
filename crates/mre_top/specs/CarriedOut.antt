-- A request that is carried out: what it asks for was printed about the contents of its files.
use Rattle.std.specs.Prelude.{◌≡◌, ℕ, true, false, Bool, List, Option, None, Some}
use Rattle.std.specs.Io.KnownBytes.{Appends}
use Rattle.std.specs.Ordering.{nat_cmp}
use Rattle.std.specs.FinSet as set
use Rattle.mre_words.specs.declared.request.Request.{Request}
use Rattle.mre_words.specs.declared.request.Request.TheVariants.{Explain, Diff, Patch, PlanPatch}
use Rattle.mre_words.specs.Requests.{names_in}
use Rattle.mre_top.specs.declared.top.Answer.{Answer}
use Rattle.mre_top.specs.Calls.{ShelfChange, SinkChange}
use Rattle.mre_top.specs.Causes.{AreAnswered}
use Rattle.mre_top.specs.Reads.{asked_then, reads}

-- an explanation is asked for
abbrev pub asks_to_explain : Option Request → Bool
asks_to_explain (Some (Explain kind files)) = true
asks_to_explain (Some (Diff files)) = false
asks_to_explain (Some (Patch files)) = false
asks_to_explain (Some (PlanPatch files)) = false
asks_to_explain None = false

-- the answer that goes with told differences: there is one where an explanation is asked for
abbrev pub answer_in : Option Request → set.FinSet nat_cmp → Option Answer
answer_in (Some (Explain kind files)) told = Some (record { kind = kind; told = told })
answer_in (Some (Diff files)) told = None
answer_in (Some (Patch files)) told = None
answer_in (Some (PlanPatch files)) told = None
answer_in None told = None

-- each file was read once, and what is printed about their contents was written
pub record IsCarriedOut (asks : Option Request) (shelf : ShelfChange) (out : SinkChange)
    (answer : Option Answer) : Type 0 where
  pub told : set.FinSet nat_cmp
  pub text : List ℕ
  pub answered : AreAnswered asks shelf.held.old told text
  pub answer_is : answer ≡ answer_in asks told
  pub asked : shelf.asked.new ≡ asked_then shelf.asked.old (reads (names_in asks))
  pub written : Appends out.written.old out.written.new text

-- The cause of each refusal and of an answer: in the request, in what the shelf holds, and in the
-- contents of the files.
use Rattle.std.specs.Prelude.{ℕ, ◌≡◌, ◌≢◌, List, [], Option, None, Some}
use Rattle.std.specs.Ordering.{nat_cmp}
use Rattle.std.specs.FinSet as set
use Rattle.mre_outside.specs.Shelves.{Files}
use Rattle.mre_outside.specs.declared.shelf.ShelfCall.{ShelfCall}
use Rattle.mre_words.specs.declared.request.Request.{Request}
use Rattle.mre_words.specs.Requests.{names_in}
use Rattle.request_answers.specs.declared.stop.AnswerStop.{AnswerStop}
use Rattle.request_answers.specs.declared.stop.AnswerStop.TheVariants.{NoMemory as Exhausted}
use Rattle.request_answers.specs.Causes.{IsDue}
use Rattle.request_answers.specs.Lines.{IsOfFile}
use Rattle.request_answers.specs.Outputs.{IsAnswer}
use Rattle.request_answers.specs.Ends.{EndsAt}
use Rattle.mre_top.specs.declared.refusal.Refusal.{Refusal}
use Rattle.mre_top.specs.declared.refusal.Refusal.TheVariants.{Usage, ReadFailed, WriteFailed}
use Rattle.mre_top.specs.declared.refusal.Refusal.TheVariants.{TooLong, Stopped, NoMemory}
use Rattle.mre_top.specs.Reads.{AreRead, StopsReading, reads}

-- ---- the contents of the files that the request names

-- the files can all be read, and their contents are the cause of this stop, which isn't that memory
-- ran out
pub record IsDueOf (asks : Option Request) (held : Option Files) (stop : AnswerStop) : Type 0 where
  pub request : Request
  pub asked : asks ≡ Some request
  pub contents : List (List ℕ)
  pub read : AreRead held (names_in asks) contents
  pub due : IsDue request contents stop
  pub some : stop ≢ Exhausted

-- the files can all be read, and this text, which tells the differences in the set, is printed
-- about their contents
pub record AreAnswered (asks : Option Request) (held : Option Files) (told : set.FinSet nat_cmp)
    (text : List ℕ) : Type 0 where
  pub request : Request
  pub asked : asks ≡ Some request
  pub contents : List (List ℕ)
  pub read : AreRead held (names_in asks) contents
  pub answer : IsAnswer request contents told text

-- the files can all be read, and their contents end with this status
pub record EndWith (asks : Option Request) (held : Option Files) (status : ℕ) : Type 0 where
  pub request : Request
  pub asked : asks ≡ Some request
  pub contents : List (List ℕ)
  pub read : AreRead held (names_in asks) contents
  pub ends : EndsAt request contents status

-- there is something to print about the files
abbrev pub HaveAnswer : Option Request → Option Files → Type 0
HaveAnswer asks held =
    (told : set.FinSet nat_cmp) × (text : List ℕ) × AreAnswered asks held told text

-- ---- refusals

-- the cause of a refusal, by the request and by what the shelf holds, and the calls of the shelf
-- until then
abbrev pub IsCause : Option Request → Option Files → Refusal → List ShelfCall → Type 0
IsCause asks held Usage calls = (asks ≡ None) × (calls ≡ [])
IsCause asks held (ReadFailed file) calls =
    StopsReading (names_in asks) held (ReadFailed file) calls
IsCause asks held (TooLong file) calls = StopsReading (names_in asks) held (TooLong file) calls
IsCause asks held NoMemory calls = StopsReading (names_in asks) held NoMemory calls
IsCause asks held WriteFailed calls = HaveAnswer asks held × (calls ≡ reads (names_in asks))
IsCause asks held (Stopped stop) calls = IsDueOf asks held stop × (calls ≡ reads (names_in asks))

-- ---- from the contents to an answer

-- the contents are the cause, or memory ran out
abbrev pub IsOfContents : Request → List (List ℕ) → Refusal → Type 0
IsOfContents request contents (Stopped stop) = IsDue request contents stop × (stop ≢ Exhausted)
IsOfContents request contents NoMemory = Unit {0}
IsOfContents request contents _ = ⊥

-- if the refusal is about a file, the file's place is below this count
abbrev pub IsOfFileCount : ℕ → Refusal → Type 0
IsOfFileCount count (Stopped stop) = IsOfFile count stop
IsOfFileCount count _ = Unit {0}

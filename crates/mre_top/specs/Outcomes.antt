-- What a status by itself says: which refusals have it, which status is due, and what was asked of
-- the shelf.
use Rattle.std.specs.Prelude.{◌≡◌, ◌⊎◌, ◌≤◌, ◌+◌, ℕ, take, length}
use Rattle.mre_top.specs.declared.refusal.Refusal.{Refusal}
use Rattle.mre_top.specs.declared.refusal.Refusal.TheVariants.{TooLong, Stopped}
use Rattle.mre_words.specs.Requests.{names_in}
use Rattle.request_answers.specs.declared.stop.AnswerStop.{AnswerStop}
use Rattle.request_answers.specs.declared.stop.AnswerStop.TheVariants.{Misread, Unbuilt}
use Rattle.request_answers.specs.declared.stop.AnswerStop.TheVariants.{TooManyParameters}
use Rattle.request_answers.specs.declared.stop.AnswerStop.TheVariants.{TooManyObjects}
use Rattle.request_answers.specs.declared.stop.AnswerStop.TheVariants.{TooManyDifferences}
use Rattle.request_answers.specs.declared.stop.AnswerStop.TheVariants.{TooManySteps}
use Rattle.request_answers.specs.declared.stop.AnswerStop.TheVariants.{TooManyActions}
use Rattle.request_answers.specs.declared.stop.AnswerStop.TheVariants.{TooManyAtoms}
use Rattle.mre_top.specs.Calls.{Call}
use Rattle.mre_top.specs.Reads.{asked_then, reads, name_at, IsTooLong}

-- a text has a fault, or there are too many differences to try every set of them
abbrev pub IsOfText : AnswerStop → Type 0
IsOfText (Misread file fault) = Unit {0}
IsOfText Unbuilt = Unit {0}
IsOfText _ = ⊥

-- a count of the contents is past its limit
abbrev pub IsOfCount : AnswerStop → Type 0
IsOfCount (TooManyParameters found) = Unit {0}
IsOfCount (TooManyObjects found) = Unit {0}
IsOfCount (TooManyDifferences found) = Unit {0}
IsOfCount (TooManySteps found) = Unit {0}
IsOfCount TooManyActions = Unit {0}
IsOfCount TooManyAtoms = Unit {0}
IsOfCount _ = ⊥

-- a count is past its limit: a file's bytes, or one of the contents
abbrev pub IsPastLimit : Refusal → Type 0
IsPastLimit (TooLong file) = Unit {0}
IsPastLimit (Stopped stop) = IsOfCount stop
IsPastLimit _ = ⊥

-- the status is the one that is due, unless a read failed or memory ran out
abbrev pub IsUnlessEarlier : ℕ → ℕ → Type 0
IsUnlessEarlier status due = (status ≡ due) ⊎ ((status ≡ 3) ⊎ (status ≡ 9))

-- the same, and where an answer is due a write may have failed
abbrev pub IsUnlessCut : ℕ → ℕ → Type 0
IsUnlessCut status due = IsUnlessEarlier status due ⊎ ((status ≡ 4) × (due ≡ 0))

-- the first names were read, and no read failed. These are all names, unless the words make no
-- request, memory ran out, or the last file read is too long
pub record AsksInOrder (call : Call) (status : ℕ) : Type 0 where
  pub count : ℕ
  pub within : count ≤ length (names_in call.request)
  pub asked : call.shelf.asked.new
      ≡ asked_then call.shelf.asked.old (reads (take count (names_in call.request)))
  pub whole : (count ≡ length (names_in call.request)) ⊎ ((status ≡ 2)
      ⊎ ((status ≡ 9) ⊎ ((status ≡ 7) × (file : ℕ) × (count ≡ file + 1)
      × IsTooLong call.shelf.held.old (name_at (names_in call.request) file))))

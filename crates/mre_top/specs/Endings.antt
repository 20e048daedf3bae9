-- How a refused call ends: for which cause, what it asked of the shelf until then, what it left on
-- the sink of answers, and what it wrote on the sink of refusals.
use Rattle.std.specs.Prelude.{◌≡◌, ◌⊎◌, ◌<◌, ℕ, List, Option, All, length, take}
use Rattle.std.specs.Ordering.{nat_cmp}
use Rattle.std.specs.FinSet as set
use Rattle.std.specs.List.{concat}
use Rattle.std.specs.Io.KnownBytes.{Appends}
use Rattle.mre_outside.specs.Failures.{Rose}
use Rattle.mre_outside.specs.Shelves.{Files}
use Rattle.mre_outside.specs.Sinks.{AppendsPrefix}
use Rattle.mre_outside.specs.declared.shelf.ShelfCall.{ShelfCall}
use Rattle.mre_words.specs.declared.request.Request.{Request}
use Rattle.mre_words.specs.Requests.{names_in}
use Rattle.request_answers.specs.Lines.{IsLine}
use Rattle.mre_top.specs.declared.refusal.Refusal.{Refusal}
use Rattle.mre_top.specs.declared.refusal.Refusal.TheVariants.{WriteFailed, NoMemory}
use Rattle.mre_top.specs.Calls.{Call, ShelfChange, SinkChange}
use Rattle.mre_top.specs.Causes.{IsCause, AreAnswered}
use Rattle.mre_top.specs.Reads.{asked_then, IsReadFailed, IsMissingWhereFailed}
use Rattle.mre_top.specs.Reporting.{IsWritten, report_of}

-- ---- the cause, and the sink of answers

-- the refusal has its cause, with these calls of the shelf until then
pub record IsRefused (asks : Option Request) (shelf : ShelfChange)
    (refusal : Refusal) : Type 0 where
  pub calls : List ShelfCall
  pub cause : IsCause asks shelf.held.old refusal calls
  pub asked : shelf.asked.new ≡ asked_then shelf.asked.old calls

-- a prefix of what is printed about the files was written
pub record IsCutShort (asks : Option Request) (held : Option Files)
    (out : SinkChange) : Type 0 where
  pub told : set.FinSet nat_cmp
  pub text : List ℕ
  pub answered : AreAnswered asks held told text
  pub written : AppendsPrefix out.written.old out.written.new text

-- a write failed, as none does on a sound sink, and a prefix of what is printed was written
pub record IsCutByFailure (asks : Option Request) (held : Option Files)
    (out : SinkChange) : Type 0 where
  pub unsound : ¬ out.sound
  pub rose : Rose out.failures.old out.failures.new
  pub cut : IsCutShort asks held out

-- the first lines of what is printed were written, each of them whole, but not all lines
pub record IsCutAtLine (asks : Option Request) (held : Option Files)
    (out : SinkChange) : Type 0 where
  pub told : set.FinSet nat_cmp
  pub lines : List (List ℕ)
  pub answered : AreAnswered asks held told (concat lines)
  pub whole : All IsLine lines
  pub count : ℕ
  pub fewer : count < length lines
  pub written : Appends out.written.old out.written.new (concat (take count lines))

-- what a refusal leaves on the sink of answers: all as it was; a prefix of the answer where a write
-- failed; and whole lines of it, but not all, where memory ran out at one
abbrev pub Leaves : Option Request → Option Files → SinkChange → Refusal → Type 0
Leaves asks held out WriteFailed = IsCutByFailure asks held out
Leaves asks held out NoMemory = out.untouched ⊎ IsCutAtLine asks held out
Leaves asks held out _ = out.untouched

-- ---- a whole call

-- the call was refused so. Where a read failed, the shelf's failures rose, and a sound shelf holds
-- nothing under the name
pub record IsRefusedBy (call : Call) (refusal : Refusal) : Type 0 where
  pub refused : IsRefused call.request call.shelf refusal
  pub rose : IsReadFailed refusal → Rose call.shelf.failures.old call.shelf.failures.new
  pub missing : call.shelf.sound
      → IsMissingWhereFailed call.shelf.held.old (names_in call.request) refusal
  pub leaves : Leaves call.request call.shelf.held.old call.out refusal

-- the call was refused so, and the lines of the refusal were written
pub record EndsBy (call : Call) (refusal : Refusal) : Type 0 where
  pub by : IsRefusedBy call refusal
  pub lines : IsWritten call.faults (report_of (names_in call.request) refusal)

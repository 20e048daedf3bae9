-- What the top call promises: of each status its clause, one line each, over the call and its
-- outcome.
use Rattle.std.specs.Prelude.{◌≡◌, ◌≢◌, ◌⊎◌, ◌↔◌, ◌≤◌, ℕ, List, [], None, IsSome, IsNone, IsTrue}
use Rattle.mre_outside.specs.Failures.{Rose}
use Rattle.joint_models.specs.declared.stop.PairFault.{PairFault}
use Rattle.mre_words.specs.Requests.{names_in}
use Rattle.request_answers.specs.declared.stop.PlanFault.{PlanFault}
use Rattle.request_answers.specs.declared.stop.AnswerStop.{AnswerStop}
use Rattle.request_answers.specs.declared.stop.AnswerStop.TheVariants.{Disagree, NotValid}
use Rattle.request_answers.specs.declared.stop.AnswerStop.TheVariants.{NotCheapest}
use Rattle.mre_top.specs.declared.refusal.Refusal.{Refusal}
use Rattle.mre_top.specs.declared.refusal.Refusal.TheVariants.{Usage, ReadFailed, WriteFailed}
use Rattle.mre_top.specs.declared.refusal.Refusal.TheVariants.{Stopped}
use Rattle.mre_top.specs.declared.top.Outcome.{Outcome}
use Rattle.mre_top.specs.Calls.{Call}
use Rattle.mre_top.specs.CarriedOut.{IsCarriedOut, asks_to_explain}
use Rattle.mre_top.specs.Causes.{IsDueOf, EndWith}
use Rattle.mre_top.specs.Endings.{IsRefusedBy, EndsBy, IsCutAtLine, IsCutByFailure}
use Rattle.mre_top.specs.Headline.{Headline}
use Rattle.mre_top.specs.Outcomes.{IsOfText, IsPastLimit, IsUnlessEarlier, IsUnlessCut}
use Rattle.mre_top.specs.Outcomes.{AsksInOrder}
use Rattle.mre_top.specs.Reads.{IsFirstTooLong}
use Rattle.mre_top.specs.Refusals.{status_of}
use Rattle.mre_top.specs.Reporting.{IsReported}

-- status 0: what the words ask for was printed
pub record OnSuccess (call : Call) (outcome : Outcome) : Type 0 where
  pub carried_out : outcome.status ≡ 0
      → IsCarriedOut call.request call.shelf call.out outcome.answer
  pub silent : outcome.status ≡ 0 → call.faults.untouched
  pub answer : IsSome outcome.answer
      ↔ ((outcome.status ≡ 0) × IsTrue (asks_to_explain call.request))

-- every other status: the refusal, and then each status by itself
pub record OnRefusal (call : Call) (outcome : Outcome) : Type 0 where
  pub refused : outcome.status ≢ 0 → (refusal : Refusal) × IsRefusedBy call refusal
      × IsReported call.faults (names_in call.request) refusal outcome.status
  pub usage : outcome.status ≡ 2 → EndsBy call Usage
  pub read_failed : outcome.status ≡ 3 → (file : ℕ) × EndsBy call (ReadFailed file)
  pub write_failed : outcome.status ≡ 4 → EndsBy call WriteFailed
  pub misread : outcome.status ≡ 5
      → (stop : AnswerStop) × IsOfText stop × EndsBy call (Stopped stop)
  pub disagree : outcome.status ≡ 6 → (fault : PairFault) × EndsBy call (Stopped (Disagree fault))
  pub past_limit : outcome.status ≡ 7
      → (refusal : Refusal) × IsPastLimit refusal × EndsBy call refusal
  pub not_valid : outcome.status ≡ 10 → (fault : PlanFault) × EndsBy call (Stopped (NotValid fault))
  pub not_cheapest : outcome.status ≡ 11 → (cost other : ℕ) × (steps : List (List ℕ))
      × EndsBy call (Stopped (NotCheapest cost other steps))

-- the other way: which status the words force, and which the files, where what the shelf holds is
-- known
pub record OnContents (call : Call) (outcome : Outcome) : Type 0 where
  pub no_request : call.request ≡ None → (outcome.status ≡ 2) ⊎ (outcome.status ≡ 9)
  pub due : IsSome call.shelf.held.old → (status : ℕ)
      → EndWith call.request call.shelf.held.old status → IsUnlessCut outcome.status status
  pub due_stop : IsSome call.shelf.held.old → (stop : AnswerStop)
      → IsDueOf call.request call.shelf.held.old stop
      → IsUnlessEarlier outcome.status (status_of (Stopped stop))
  pub too_long : IsSome call.request → IsSome call.shelf.held.old
      → IsFirstTooLong call.shelf.held.old (names_in call.request)
      → IsUnlessEarlier outcome.status 7
  pub complete : IsSome call.shelf.held.old → EndWith call.request call.shelf.held.old 0
      → ¬ Rose call.shelf.failures.old call.shelf.failures.new
      → ¬ Rose call.out.failures.old call.out.failures.new
      → (outcome.status ≡ 0) ⊎ (outcome.status ≡ 9)

-- what was asked of the shelf, and what is on the sink of answers
pub record OnTraces (call : Call) (outcome : Outcome) : Type 0 where
  pub asked : outcome.status ≢ 3 → outcome.status ≢ 9 → AsksInOrder call outcome.status
  pub out : outcome.status ≢ 0 → outcome.status ≢ 4 → outcome.status ≢ 9 → call.out.untouched
  pub out_in_want : outcome.status ≡ 9 → call.out.untouched
      ⊎ (IsCutAtLine call.request call.shelf.held.old call.out
      ⊎ IsCutByFailure call.request call.shelf.held.old call.out)
  pub out_sound : call.out.sound → outcome.status ≢ 4

-- at every status: the shelf holds what it held, no count falls, what is sound stays sound, and the
-- log is empty
pub record Stays (call : Call) (outcome : Outcome) : Type 0 where
  pub held : call.shelf.held.new ≡ call.shelf.held.old
  pub shelf_failures : call.shelf.failures.old ≤ call.shelf.failures.new
  pub out_failures : call.out.failures.old ≤ call.out.failures.new
  pub faults_failures : call.faults.failures.old ≤ call.faults.failures.new
  pub shelf_stays_sound : call.shelf.sound → call.shelf.still_sound
  pub out_stays_sound : call.out.sound → call.out.still_sound
  pub faults_stay_sound : call.faults.sound → call.faults.still_sound
  pub log : outcome.log ≡ record { limit = 200000; nodes = [] }

-- all of it
pub record Promise (call : Call) (outcome : Outcome) : Type 0 where
  pub headline : Headline call outcome
  pub success : OnSuccess call outcome
  pub refusal : OnRefusal call outcome
  pub contents : OnContents call outcome
  pub traces : OnTraces call outcome
  pub stays : Stays call outcome

-- ---- the two ways in which a call ends, from which all but what stays follows

-- it was carried out, and nothing was reported
pub record IsDone (call : Call) (outcome : Outcome) : Type 0 where
  pub status_is : outcome.status ≡ 0
  pub carried_out : IsCarriedOut call.request call.shelf call.out outcome.answer
  pub silent : call.faults.untouched

-- it was refused, and the refusal was reported
pub record IsStopped (call : Call) (outcome : Outcome) : Type 0 where
  pub answer : IsNone outcome.answer
  pub refusal : Refusal
  pub by : IsRefusedBy call refusal
  pub reported : IsReported call.faults (names_in call.request) refusal outcome.status

abbrev pub Ended : Call → Outcome → Type 0
Ended call outcome = IsDone call outcome ⊎ IsStopped call outcome

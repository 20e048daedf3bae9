-- Which refusals have a status.
use Rattle.std.proofs.Common.{◌≡◌, ◌⊎◌, ℕ, ◌≤◌, List, arith, inl, inr}
use Rattle.joint_models.specs.declared.stop.PairFault.{PairFault}
use Rattle.request_answers.specs.declared.stop.PlanFault.{PlanFault}
use Rattle.request_answers.specs.declared.stop.AnswerStop.{AnswerStop}
use Rattle.request_answers.specs.declared.stop.AnswerStop.TheVariants.{Misread, Disagree, TooManyParameters, TooManyObjects, TooManyDifferences, TooManySteps, TooManyActions, TooManyAtoms, NotValid, Unbuilt, NotCheapest}
use Rattle.request_answers.specs.Lines.{status_of as stop_status}
use Rattle.mre_top.specs.declared.refusal.Refusal.{Refusal}
use Rattle.mre_top.specs.declared.refusal.Refusal.TheVariants.{Usage, ReadFailed, WriteFailed, TooLong, Stopped}
use Rattle.mre_top.specs.Calls.{Call, SinkChange}
use Rattle.mre_top.specs.Endings.{EndsBy}
use Rattle.mre_top.specs.Outcomes.{IsPastLimit, IsOfText}
use Rattle.mre_top.specs.Refusals.{status_of}
use Rattle.mre_top.specs.Reporting.{IsReported}

-- the status is the refusal's, or memory ran out
pub status_by : (faults : SinkChange) (names : List (List ℕ)) (refusal : Refusal) (status : ℕ) → IsReported faults names refusal status → (status ≡ status_of refusal) ⊎ (status ≡ 9)
status_by faults names refusal status (inl own) = inl own.0
status_by faults names refusal status (inr cut) = inr cut.0

-- no stop has a status below 5
pub stop_high : (stop : AnswerStop) → 5 ≤ stop_status stop
stop_high (Misread file fault) = omega arith
stop_high _ = omega arith

-- no refusal has the status 0
pub not_zero : (refusal : Refusal) (status : ℕ) → (status ≡ status_of refusal) ⊎ (status ≡ 9) → status ≡ 0 → ⊥
not_zero (Stopped stop) status by e = elim by [ inl s ↦ omega (arith, stop_high stop) | inr s ↦ omega arith ]
not_zero _ status by e = elim by [ inl s ↦ omega arith | inr s ↦ omega arith ]

-- ---- the refusals of each status by itself
module _ (call : Call) where
  pub usage : (refusal : Refusal) → status_of refusal ≡ 2 → EndsBy call refusal → EndsBy call Usage
  usage Usage e ends = ends
  usage (Stopped stop) e ends = absurd (omega (arith, e, stop_high stop))
  usage refusal e ends = absurd (omega (arith, e))

  pub read_failed : (refusal : Refusal) → status_of refusal ≡ 3 → EndsBy call refusal → (file : ℕ) × EndsBy call (ReadFailed file)
  read_failed (ReadFailed file) e ends = (file, ends)
  read_failed (Stopped stop) e ends = absurd (omega (arith, e, stop_high stop))
  read_failed refusal e ends = absurd (omega (arith, e))

  pub write_failed : (refusal : Refusal) → status_of refusal ≡ 4 → EndsBy call refusal → EndsBy call WriteFailed
  write_failed WriteFailed e ends = ends
  write_failed (Stopped stop) e ends = absurd (omega (arith, e, stop_high stop))
  write_failed refusal e ends = absurd (omega (arith, e))

  pub misread : (refusal : Refusal) → status_of refusal ≡ 5 → EndsBy call refusal → (stop : AnswerStop) × IsOfText stop × EndsBy call (Stopped stop)
  misread (Stopped (Misread file fault)) e ends = (Misread file fault, tt, ends)
  misread (Stopped Unbuilt) e ends = (Unbuilt, tt, ends)
  misread refusal e ends = absurd (omega (arith, e))

  pub disagree : (refusal : Refusal) → status_of refusal ≡ 6 → EndsBy call refusal → (fault : PairFault) × EndsBy call (Stopped (Disagree fault))
  disagree (Stopped (Disagree fault)) e ends = (fault, ends)
  disagree refusal e ends = absurd (omega (arith, e))

  pub past_limit : (refusal : Refusal) → status_of refusal ≡ 7 → EndsBy call refusal → (why : Refusal) × IsPastLimit why × EndsBy call why
  past_limit (TooLong file) e ends = (TooLong file, tt, ends)
  past_limit (Stopped (TooManyParameters found)) e ends = (Stopped (TooManyParameters found), tt, ends)
  past_limit (Stopped (TooManyObjects found)) e ends = (Stopped (TooManyObjects found), tt, ends)
  past_limit (Stopped (TooManyDifferences found)) e ends = (Stopped (TooManyDifferences found), tt, ends)
  past_limit (Stopped (TooManySteps found)) e ends = (Stopped (TooManySteps found), tt, ends)
  past_limit (Stopped TooManyActions) e ends = (Stopped TooManyActions, tt, ends)
  past_limit (Stopped TooManyAtoms) e ends = (Stopped TooManyAtoms, tt, ends)
  past_limit refusal e ends = absurd (omega (arith, e))

  pub not_valid : (refusal : Refusal) → status_of refusal ≡ 10 → EndsBy call refusal → (fault : PlanFault) × EndsBy call (Stopped (NotValid fault))
  not_valid (Stopped (NotValid fault)) e ends = (fault, ends)
  not_valid refusal e ends = absurd (omega (arith, e))

  pub not_cheapest : (refusal : Refusal) → status_of refusal ≡ 11 → EndsBy call refusal → (cost other : ℕ) × (steps : List (List ℕ)) × EndsBy call (Stopped (NotCheapest cost other steps))
  not_cheapest (Stopped (NotCheapest cost other steps)) e ends = (cost, other, steps, ends)
  not_cheapest refusal e ends = absurd (omega (arith, e))

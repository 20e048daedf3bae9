-- From the two ways in which a call ends to what each status promises.
use Rattle.std.proofs.Common.{◌≡◌, ◌⊎◌, ℕ, None, Some, refl, sym, subst, ◌∙◌, inl, inr, arith}
use Rattle.std.specs.Prelude.{◌≢◌, ◌↔◌, IsSome, IsTrue}
use Rattle.mre_words.specs.Requests.{names_in}
use Rattle.request_answers.specs.declared.stop.AnswerStop.{AnswerStop}
use Rattle.request_answers.proofs.Ending.{due_ends}
use Rattle.mre_top.specs.declared.refusal.Refusal.{Refusal}
use Rattle.mre_top.specs.declared.refusal.Refusal.TheVariants.{ReadFailed, WriteFailed, Stopped}
use Rattle.mre_top.specs.declared.top.Outcome.{Outcome}
use Rattle.mre_top.specs.Calls.{Call}
use Rattle.mre_top.specs.CarriedOut.{asks_to_explain}
use Rattle.mre_top.specs.Causes.{IsDueOf, EndWith}
use Rattle.mre_top.specs.Endings.{IsRefusedBy, EndsBy, IsCutAtLine, IsCutByFailure}
use Rattle.mre_top.specs.Headline.{Headline}
use Rattle.mre_top.specs.Outcomes.{IsUnlessEarlier, IsUnlessCut, AsksInOrder}
use Rattle.mre_top.specs.Promise.{OnSuccess, OnRefusal, OnContents, OnTraces, IsDone, IsStopped, Ended}
use Rattle.mre_top.specs.Reads.{IsFirstTooLong}
use Rattle.mre_top.specs.Refusals.{status_of}
use Rattle.mre_top.specs.Reporting.{IsReported}
use Rattle.mre_top.proofs.Answered.{never_both, answer_some, due_by, answered_by, long_by, never_long, unasked, not_cut, completed, out_stays, out_memory, all_asked, asks}
use Rattle.mre_top.proofs.Explained.{explained_by}
use Rattle.mre_top.proofs.Statuses as status
use Rattle.mre_top.proofs.Statuses.{status_by, not_zero}

module _ (call : Call) (outcome : Outcome) where
  -- a refused call ends with the refusal's status, or memory ran out
  by : (stopped : IsStopped call outcome) → (outcome.status ≡ status_of stopped.refusal) ⊎ (outcome.status ≡ 9)
  by stopped = status_by call.faults (names_in call.request) stopped.refusal outcome.status stopped.reported

  -- a call with status 0 was carried out
  done_at : Ended call outcome → outcome.status ≡ 0 → IsDone call outcome
  done_at (inl done) e = done
  done_at (inr stopped) e = absurd (not_zero stopped.refusal outcome.status (by stopped) e)

  -- a call with another status was refused
  stopped_at : Ended call outcome → outcome.status ≢ 0 → IsStopped call outcome
  stopped_at (inl done) not = absurd (not done.status_is)
  stopped_at (inr stopped) not = stopped

  -- but for status 9 the refusal has the status, and its lines were written
  own : (refusal : Refusal) → IsRefusedBy call refusal → IsReported call.faults (names_in call.request) refusal outcome.status → outcome.status ≢ 9
      → (status_of refusal ≡ outcome.status) × EndsBy call refusal
  own refusal refused (inl whole) not = (sym whole.0, record { by = refused; lines = whole.1 })
  own refusal refused (inr cut) not = absurd (not cut.0)

  module _ (ended : Ended call outcome) where
    ends_at : (k : ℕ) → outcome.status ≡ k → k ≢ 0 → k ≢ 9 → (refusal : Refusal) × (status_of refusal ≡ k) × EndsBy call refusal
    ends_at k e zero nine =
        let stopped = stopped_at ended (λ none. zero (sym e ∙ none)) in
        let ends = own stopped.refusal stopped.by stopped.reported (λ memory. nine (sym e ∙ memory)) in
        (stopped.refusal, ends.0 ∙ e, ends.1)

    -- ---- status 0
    pub headline : Headline call outcome
    headline names asked e = explained_by call outcome names asked (done_at ended e).carried_out

    answer_there : Ended call outcome → IsSome outcome.answer ↔ ((outcome.status ≡ 0) × IsTrue (asks_to_explain call.request))
    answer_there (inl done) =
        let some = answer_some call.request done.carried_out.told in
        (λ there. (done.status_is, some.0 (subst IsSome done.carried_out.answer_is there)), λ both. subst IsSome (sym done.carried_out.answer_is) (some.1 both.1))
    answer_there (inr stopped) = (λ there. absurd (never_both outcome.answer stopped.answer there), λ both. absurd (not_zero stopped.refusal outcome.status (by stopped) both.0))

    pub on_success : OnSuccess call outcome
    on_success = record {
      carried_out = λ e. (done_at ended e).carried_out;
      silent = λ e. (done_at ended e).silent;
      answer = answer_there ended;
    }

    -- ---- the other statuses
    read_failed : outcome.status ≡ 3 → (file : ℕ) × EndsBy call (ReadFailed file)
    read_failed e = let at = ends_at 3 e (λ s. omega arith) (λ s. omega arith) in status.read_failed call at.0 at.1 at.2

    write_failed : outcome.status ≡ 4 → EndsBy call WriteFailed
    write_failed e = let at = ends_at 4 e (λ s. omega arith) (λ s. omega arith) in status.write_failed call at.0 at.1 at.2

    pub on_refusal : OnRefusal call outcome
    on_refusal = record {
      refused = λ not. let stopped = stopped_at ended not in (stopped.refusal, stopped.by, stopped.reported);
      usage = λ e. let at = ends_at 2 e (λ s. omega arith) (λ s. omega arith) in status.usage call at.0 at.1 at.2;
      read_failed = read_failed;
      write_failed = write_failed;
      misread = λ e. let at = ends_at 5 e (λ s. omega arith) (λ s. omega arith) in status.misread call at.0 at.1 at.2;
      disagree = λ e. let at = ends_at 6 e (λ s. omega arith) (λ s. omega arith) in status.disagree call at.0 at.1 at.2;
      past_limit = λ e. let at = ends_at 7 e (λ s. omega arith) (λ s. omega arith) in status.past_limit call at.0 at.1 at.2;
      not_valid = λ e. let at = ends_at 10 e (λ s. omega arith) (λ s. omega arith) in status.not_valid call at.0 at.1 at.2;
      not_cheapest = λ e. let at = ends_at 11 e (λ s. omega arith) (λ s. omega arith) in status.not_cheapest call at.0 at.1 at.2;
    }

    -- ---- the other way
    no_request : Ended call outcome → call.request ≡ None → (outcome.status ≡ 2) ⊎ (outcome.status ≡ 9)
    no_request (inl done) none = let both : None ≡ Some done.carried_out.answered.request = sym none ∙ done.carried_out.answered.asked in absurd (cc)
    no_request (inr stopped) none =
        unasked call.request outcome.status call.shelf.held.old none stopped.refusal stopped.by.refused.calls stopped.by.refused.cause (by stopped)

    due : Ended call outcome → IsSome call.shelf.held.old → (end : ℕ) → EndWith call.request call.shelf.held.old end → IsUnlessCut outcome.status end
    due (inl done) known end with =
        inl (inl (done.status_is ∙ sym (answered_by call.request outcome.status call.shelf.held.old known end with done.carried_out.told done.carried_out.text done.carried_out.answered)))
    due (inr stopped) known end with =
        due_by call.request outcome.status call.shelf.held.old known end with stopped.refusal stopped.by.refused.calls stopped.by.refused.cause (by stopped)

    too_long : Ended call outcome → IsSome call.request → IsSome call.shelf.held.old → IsFirstTooLong call.shelf.held.old (names_in call.request) → IsUnlessEarlier outcome.status 7
    too_long (inl done) some known long =
        absurd (never_long call.request outcome.status call.shelf.held.old known long done.carried_out.told done.carried_out.text done.carried_out.answered)
    too_long (inr stopped) some known long =
        long_by call.request outcome.status call.shelf.held.old some known long stopped.refusal stopped.by.refused.calls stopped.by.refused.cause (by stopped)

    -- contents that have a cause end with its status
    end_with : (stop : AnswerStop) → IsDueOf call.request call.shelf.held.old stop → EndWith call.request call.shelf.held.old (status_of (Stopped stop))
    end_with stop is = record { request = is.request; asked = is.asked; contents = is.contents; read = is.read; ends = due_ends is.request is.contents stop is.some is.due }

    pub on_contents : OnContents call outcome
    on_contents = record {
      no_request = no_request ended;
      due = due ended;
      due_stop = λ known stop is. not_cut outcome.status (status_of (Stopped stop)) (due ended known (status_of (Stopped stop)) (end_with stop is)) (not_zero (Stopped stop) (status_of (Stopped stop)) (inl refl));
      too_long = too_long ended;
      complete = λ known with read write. completed outcome.status (due ended known 0 with) (λ e. read ((read_failed e).1.by.rose tt)) (λ e. write (write_failed e).by.leaves.rose);
    }

    -- ---- what is left
    asked : Ended call outcome → outcome.status ≢ 3 → outcome.status ≢ 9 → AsksInOrder call outcome.status
    asked (inl done) read memory = all_asked call outcome.status done.carried_out.asked
    asked (inr stopped) read memory = asks call outcome.status stopped.refusal stopped.by.refused (by stopped) read memory

    out : outcome.status ≢ 0 → outcome.status ≢ 4 → outcome.status ≢ 9 → call.out.untouched
    out zero write memory =
        let stopped = stopped_at ended zero in
        out_stays call.request call.shelf.held.old call.out stopped.refusal outcome.status stopped.by.leaves (by stopped) write memory

    out_in_want : outcome.status ≡ 9 → call.out.untouched ⊎ (IsCutAtLine call.request call.shelf.held.old call.out ⊎ IsCutByFailure call.request call.shelf.held.old call.out)
    out_in_want e =
        let stopped = stopped_at ended (λ s. omega (arith, e, s)) in
        out_memory call.request call.shelf.held.old call.out stopped.refusal stopped.by.leaves

    pub on_traces : OnTraces call outcome
    on_traces = record {
      asked = asked ended;
      out = out;
      out_in_want = out_in_want;
      out_sound = λ sound e. (write_failed e).by.leaves.unsound sound;
    }

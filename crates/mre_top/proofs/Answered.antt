-- A call ended with an answer or with a refusal: what follows for its status, for the sink of
-- answers, and for the calls of the shelf.
use Rattle.std.proofs.Common.{◌≡◌, ◌⊎◌, ℕ, ◌+◌, List, length, Option, None, Some, refl, sym, ap, ◌∙◌, inl, inr, arith}
use Rattle.std.specs.Prelude.{◌≢◌, ◌↔◌, IsSome, IsNone, IsTrue}
use Rattle.std.proofs.lemmas.Bool.{true≢false}
use Rattle.std.proofs.lemmas.List.{take_all}
use Rattle.std.specs.Ordering.{nat_cmp}
use Rattle.std.specs.FinSet as set
use Rattle.mre_outside.specs.Shelves.{Files}
use Rattle.mre_outside.specs.declared.shelf.ShelfCall.{ShelfCall}
use Rattle.mre_top.specs.declared.refusal.Refusal.{Refusal}
use Rattle.mre_top.specs.declared.refusal.Refusal.TheVariants.{Usage, ReadFailed, WriteFailed, TooLong, Stopped, NoMemory}
use Rattle.mre_words.specs.declared.request.Request.{Request}
use Rattle.mre_words.specs.declared.request.Request.TheVariants.{Explain, Diff, Patch, PlanPatch}
use Rattle.mre_words.specs.Requests.{names_in}
use Rattle.mre_top.specs.Calls.{Call, SinkChange}
use Rattle.mre_top.specs.CarriedOut.{answer_in, asks_to_explain}
use Rattle.mre_top.specs.Causes.{IsCause, AreAnswered, EndWith}
use Rattle.mre_top.specs.Endings.{IsRefused, IsCutByFailure, IsCutAtLine, Leaves}
use Rattle.mre_top.specs.Outcomes.{IsUnlessEarlier, IsUnlessCut, AsksInOrder}
use Rattle.mre_top.specs.Reads.{IsFirstTooLong, asked_then, reads}
use Rattle.mre_top.specs.Refusals.{status_of}
use Rattle.mre_top.proofs.DueStatus.{by_answered, due_status, long_status, long_answered}

pub never_both : {X : Type 0} (o : Option X) → IsNone o → ¬ IsSome o
never_both None none some = true≢false (sym some)
never_both (Some x) none some = true≢false none

-- there is an answer exactly where an explanation is asked for
pub answer_some : (asks : Option Request) (told : set.FinSet nat_cmp) → IsSome (answer_in asks told) ↔ IsTrue (asks_to_explain asks)
answer_some None told = (λ e. e, λ e. e)
answer_some (Some (Explain kind files)) told = (λ e. e, λ e. e)
answer_some (Some (Diff files)) told = (λ e. e, λ e. e)
answer_some (Some (Patch files)) told = (λ e. e, λ e. e)
answer_some (Some (PlanPatch files)) told = (λ e. e, λ e. e)

-- ---- the status that is due
module _ (asks : Option Request) (status : ℕ) where
  pub due_by : (held : Option Files) → IsSome held → (end : ℕ) → EndWith asks held end
      → (refusal : Refusal) (calls : List ShelfCall) → IsCause asks held refusal calls → (status ≡ status_of refusal) ⊎ (status ≡ 9) → IsUnlessCut status end
  due_by (Some files) known end with refusal calls cause by = due_status asks files status end with refusal calls cause by
  due_by None known end with refusal calls cause by = absurd (true≢false (sym known))

  pub answered_by : (held : Option Files) → IsSome held → (end : ℕ) → EndWith asks held end
      → (said : set.FinSet nat_cmp) (text : List ℕ) → AreAnswered asks held said text → end ≡ 0
  answered_by (Some files) known end with said text is = by_answered asks files status end with said text is
  answered_by None known end with said text is = absurd (true≢false (sym known))

  pub long_by : (held : Option Files) → IsSome asks → IsSome held → IsFirstTooLong held (names_in asks)
      → (refusal : Refusal) (calls : List ShelfCall) → IsCause asks held refusal calls → (status ≡ status_of refusal) ⊎ (status ≡ 9) → IsUnlessEarlier status 7
  long_by (Some files) some known long refusal calls cause by = long_status asks files status long some refusal calls cause by
  long_by None some known long refusal calls cause by = absurd (true≢false (sym known))

  pub never_long : (held : Option Files) → IsSome held → IsFirstTooLong held (names_in asks) → (said : set.FinSet nat_cmp) (text : List ℕ) → AreAnswered asks held said text → ⊥
  never_long (Some files) known long said text is = long_answered asks files status long said text is
  never_long None known long said text is = absurd (true≢false (sym known))

-- where the words make no request, the call ends with status 2 or 9
pub unasked : (asks : Option Request) (status : ℕ) (held : Option Files) → asks ≡ None
    → (refusal : Refusal) (calls : List ShelfCall) → IsCause asks held refusal calls → (status ≡ status_of refusal) ⊎ (status ≡ 9) → (status ≡ 2) ⊎ (status ≡ 9)
unasked None status held none Usage calls cause by = by
unasked None status held none (ReadFailed file) calls cause by = absurd (omega (arith, cause.0))
unasked None status held none (TooLong file) calls cause by = absurd (omega (arith, cause.0))
unasked None status held none NoMemory calls cause by = elim by [ inl s ↦ inr s | inr s ↦ inr s ]
unasked None status held none WriteFailed calls cause by = let both : None ≡ Some cause.0.2.request = cause.0.2.asked in absurd (cc)
unasked None status held none (Stopped stop) calls cause by = let both : None ≡ Some cause.0.request = cause.0.asked in absurd (cc)
unasked (Some request) status held none refusal calls cause by = absurd (cc)

pub not_cut : (status due : ℕ) → IsUnlessCut status due → (due ≡ 0 → ⊥) → IsUnlessEarlier status due
not_cut status due (inl is) some = is
not_cut status due (inr cut) some = absurd (some cut.1)

pub completed : (status : ℕ) → IsUnlessCut status 0 → (status ≡ 3 → ⊥) → (status ≡ 4 → ⊥) → (status ≡ 0) ⊎ (status ≡ 9)
completed status (inl (inl is)) read write = inl is
completed status (inl (inr (inl is))) read write = absurd (read is)
completed status (inl (inr (inr is))) read write = inr is
completed status (inr cut) read write = absurd (write cut.0)

-- ---- the sink of answers
module _ (asks : Option Request) (held : Option Files) (out : SinkChange) where
  pub out_stays : (refusal : Refusal) (status : ℕ) → Leaves asks held out refusal → (status ≡ status_of refusal) ⊎ (status ≡ 9) → status ≢ 4 → status ≢ 9 → out.untouched
  out_stays WriteFailed status leaves by write memory = absurd (elim by [ inl s ↦ write s | inr s ↦ memory s ])
  out_stays NoMemory status leaves by write memory = absurd (elim by [ inl s ↦ memory s | inr s ↦ memory s ])
  out_stays _ status leaves by write memory = leaves

  pub out_memory : (refusal : Refusal) → Leaves asks held out refusal → out.untouched ⊎ (IsCutAtLine asks held out ⊎ IsCutByFailure asks held out)
  out_memory WriteFailed leaves = inr (inr leaves)
  out_memory NoMemory leaves = elim leaves [ inl s ↦ inl s | inr cut ↦ inr (inl cut) ]
  out_memory _ leaves = inl leaves

-- ---- the calls of the shelf
module _ (call : Call) (status : ℕ) where
  pub all_asked : call.shelf.asked.new ≡ asked_then call.shelf.asked.old (reads (names_in call.request)) → AsksInOrder call status
  all_asked asked = record {
    count = length (names_in call.request);
    within = omega arith;
    asked = asked ∙ ap (λ l. asked_then call.shelf.asked.old (reads l)) (sym (take_all (length (names_in call.request)) (names_in call.request) (omega arith)));
    whole = inl refl;
  }

  pub asks : (refusal : Refusal) → IsRefused call.request call.shelf refusal → (status ≡ status_of refusal) ⊎ (status ≡ 9) → status ≢ 3 → status ≢ 9 → AsksInOrder call status
  asks Usage refused by read memory =
      record {
        count = 0;
        within = omega arith;
        asked = refused.asked ∙ ap (asked_then call.shelf.asked.old) refused.cause.1;
        whole = elim by [ inl s ↦ inr (inl s) | inr s ↦ inr (inr (inl s)) ];
      }
  asks (ReadFailed file) refused by read memory = absurd (elim by [ inl s ↦ read s | inr s ↦ memory s ])
  asks (TooLong file) refused by read memory =
      record {
        count = file + 1;
        within = omega (arith, refused.cause.0);
        asked = refused.asked ∙ ap (asked_then call.shelf.asked.old) refused.cause.3;
        whole = elim by [ inl s ↦ inr (inr (inr (s, file, refl, refused.cause.2))) | inr s ↦ inr (inr (inl s)) ];
      }
  asks NoMemory refused by read memory = absurd (elim by [ inl s ↦ memory s | inr s ↦ memory s ])
  asks refusal refused by read memory = all_asked (refused.asked ∙ ap (asked_then call.shelf.asked.old) refused.cause.1)

-- Which status is due by the request, by what the shelf holds and by the contents of the files.
use Rattle.std.proofs.Common.{◌≡◌, ◌⊎◌, ℕ, ◌<◌, ◌≤◌, List, [], ◌∷◌, length, map, Option, None, Some, get_or, refl, sym, ap, ◌∙◌, subst, inl, inr, arith}
use Rattle.std.specs.Ordering.{nat_cmp}
use Rattle.std.specs.FinSet as set
use Rattle.std.specs.Prelude.{is_some, IsSome, IsSomeAnd, slice_get}
use Rattle.std.specs.Option.{option_map}
use Rattle.std.specs.FinMap as files_map
use Rattle.std.proofs.lemmas.Bool.{true≢false}
use Rattle.std.proofs.lemmas.Option.{slice_get-map, slice_get-get_or}
use Rattle.mre_base.proofs.Loops.{All_item}
use Rattle.mre_outside.specs.Shelves.{Files}
use Rattle.mre_outside.specs.declared.shelf.ShelfCall.{ShelfCall}
use Rattle.mre_top.specs.declared.refusal.Refusal.{Refusal}
use Rattle.mre_top.specs.declared.refusal.Refusal.TheVariants.{Usage, ReadFailed, WriteFailed, TooLong, Stopped, NoMemory}
use Rattle.mre_words.specs.declared.request.Request.{Request}
use Rattle.mre_words.specs.Requests.{names_in}
use Rattle.request_answers.specs.declared.stop.AnswerStop.{AnswerStop}
use Rattle.request_answers.specs.Ends.{EndsAt}
use Rattle.request_answers.specs.Lines.{status_of as stop_status}
use Rattle.request_answers.proofs.OneEnd.{ends_once}
use Rattle.request_answers.proofs.Ending.{due_ends, answer_ends}
use Rattle.mre_top.specs.Reads.{AreRead, IsTooLong, IsFirstTooLong, name_at, file_limit}
use Rattle.mre_top.specs.Refusals.{status_of}
use Rattle.mre_top.specs.Causes.{IsCause, IsDueOf, AreAnswered, EndWith}
use Rattle.mre_top.specs.Outcomes.{IsUnlessEarlier, IsUnlessCut}

same_under : (xs ys : List (List ℕ)) → map Some xs ≡ map Some ys → xs ≡ ys
same_under [] [] e = refl
same_under [] (y ∷ ys) e = absurd (cc)
same_under (x ∷ xs) [] e = absurd (cc)
same_under (x ∷ xs) (y ∷ ys) e =
    let first : Some x ≡ Some y = cc in
    let here : x ≡ y = cc in
    let behind : map Some xs ≡ map Some ys = cc in
    let rest = same_under xs ys behind in
    λ i. here i ∷ rest i

-- known files hold one list of contents under the names
contents_once : (files : Files) (names one two : List (List ℕ)) → AreRead (Some files) names one → AreRead (Some files) names two → one ≡ two
contents_once files names one two first second = same_under one two (sym first.whole ∙ second.whole)

-- a file that can be read isn't too long
pub not_too_long : (files : Files) (names contents : List (List ℕ)) (file : ℕ) → AreRead (Some files) names contents → file < length names → IsTooLong (Some files) (name_at names file) → ⊥
not_too_long files names contents file read within long =
    let name : slice_get names file ≡ Some (name_at names file) = slice_get-get_or names file [] within in
    let inside : file < length contents = omega (arith, read.counted) in
    let bytes = get_or contents file [] in
    let item : slice_get contents file ≡ Some bytes = slice_get-get_or contents file [] inside in
    let found : Some (files_map.get files (name_at names file)) ≡ Some (Some bytes) =
    ap (option_map (files_map.get files)) (sym name) ∙ sym (slice_get-map (files_map.get files) names file) ∙ ap (λ l. slice_get l file) read.whole
    ∙ slice_get-map Some contents file ∙ ap (option_map Some) item in
    let is : files_map.get files (name_at names file) ≡ Some bytes = cc in
    let short : length bytes ≤ file_limit = All_item contents file bytes item (λ b. length b ≤ file_limit) read.within in
    let longer : file_limit < length bytes = subst (λ o. IsSomeAnd o (λ b. file_limit < length b)) is long in
    omega arith

module _ (asks : Option Request) (files : Files) (status : ℕ) where
  request_once : (one two : Request) → asks ≡ Some one → asks ≡ Some two → one ≡ two
  request_once one two first second = let both : Some one ≡ Some two = sym first ∙ second in cc

  -- the files that were read are those that are due
  module _ (end : ℕ) (with : EndWith asks (Some files) end) where
    -- other contents of the same files are these, and end so too
    same_end : (request : Request) (contents : List (List ℕ)) (other : ℕ) → asks ≡ Some request → AreRead (Some files) (names_in asks) contents → EndsAt request contents other → other ≡ end
    same_end request contents other asked read ends =
        let requests = request_once request with.request asked with.asked in
        let texts = contents_once files (names_in asks) contents with.contents read with.read in
        let F : Request × List (List ℕ) → Type 0 = λ t. EndsAt t.0 t.1 other in
        ends_once with.request with.contents other end (subst F (λ i. (requests i, texts i)) ends) with.ends

    pub by_answered : (told : set.FinSet nat_cmp) (text : List ℕ) → AreAnswered asks (Some files) told text → end ≡ 0
    by_answered told text is = sym (same_end is.request is.contents 0 is.asked is.read (answer_ends is.request is.contents told text is.answer))

    by_due : (stop : AnswerStop) → IsDueOf asks (Some files) stop → stop_status stop ≡ end
    by_due stop is = same_end is.request is.contents (stop_status stop) is.asked is.read (due_ends is.request is.contents stop is.some is.due)

    pub due_status : (refusal : Refusal) (calls : List ShelfCall) → IsCause asks (Some files) refusal calls → (status ≡ status_of refusal) ⊎ (status ≡ 9) → IsUnlessCut status end
    due_status Usage calls cause by = let both : Some with.request ≡ None = sym with.asked ∙ cause.0 in absurd (cc)
    due_status (ReadFailed file) calls cause by = elim by [ inl s ↦ inl (inr (inl s)) | inr s ↦ inl (inr (inr s)) ]
    due_status (TooLong file) calls cause by = absurd (not_too_long files (names_in asks) with.contents file with.read cause.0 cause.2)
    due_status NoMemory calls cause by = elim by [ inl s ↦ inl (inr (inr s)) | inr s ↦ inl (inr (inr s)) ]
    due_status WriteFailed calls cause by = elim by [ inl s ↦ inr (s, by_answered cause.0.0 cause.0.1 cause.0.2) | inr s ↦ inl (inr (inr s)) ]
    due_status (Stopped stop) calls cause by = elim by [ inl s ↦ inl (inl (s ∙ by_due stop cause.0)) | inr s ↦ inl (inr (inr s)) ]

  -- a file that is too long
  module _ (long : IsFirstTooLong (Some files) (names_in asks)) where
    all_read : (contents : List (List ℕ)) → AreRead (Some files) (names_in asks) contents → ⊥
    all_read contents read = not_too_long files (names_in asks) contents long.0 read long.1 long.3

    pub long_status : IsSome asks → (refusal : Refusal) (calls : List ShelfCall) → IsCause asks (Some files) refusal calls → (status ≡ status_of refusal) ⊎ (status ≡ 9) → IsUnlessEarlier status 7
    long_status some Usage calls cause by = absurd (true≢false (sym some ∙ ap is_some cause.0))
    long_status some (ReadFailed file) calls cause by = elim by [ inl s ↦ inr (inl s) | inr s ↦ inr (inr s) ]
    long_status some (TooLong file) calls cause by = elim by [ inl s ↦ inl s | inr s ↦ inr (inr s) ]
    long_status some NoMemory calls cause by = elim by [ inl s ↦ inr (inr s) | inr s ↦ inr (inr s) ]
    long_status some WriteFailed calls cause by = absurd (all_read cause.0.2.contents cause.0.2.read)
    long_status some (Stopped stop) calls cause by = absurd (all_read cause.0.contents cause.0.read)

    pub long_answered : (told : set.FinSet nat_cmp) (text : List ℕ) → AreAnswered asks (Some files) told text → ⊥
    long_answered told text is = all_read is.contents is.read

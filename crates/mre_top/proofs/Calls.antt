-- The calls that the reads of a request's files ask, one after another.
use Rattle.std.proofs.Common.{◌≡◌, ℕ, ◌+◌, ◌<◌, List, [], ◌∷◌, ◌++◌, take, length, Option, None, Some, Err, refl, sym, ap, ◌∙◌, append_assoc, subst, true, false, arith}
use Rattle.std.proofs.lemmas.List.{map_more, append-nil}
use Rattle.mre_outside.specs.Shelves.{Files}
use Rattle.mre_outside.specs.declared.shelf.ShelfCall.{ShelfCall}
use Rattle.mre_top.specs.declared.refusal.Refusal.{Refusal}
use Rattle.mre_top.specs.declared.refusal.Refusal.TheVariants.{ReadFailed, TooLong, NoMemory}
use Rattle.mre_top.specs.Reads.{AreReadable, IsTooLong, Stops, StopsAt, asked_then, reads, read_of, name_at, calls_of}

-- one call after the others
pub asked_then-twice : (asked : Option (List ShelfCall)) (xs ys : List ShelfCall) → asked_then (asked_then asked xs) ys ≡ asked_then asked (xs ++ ys)
asked_then-twice None xs ys = refl
asked_then-twice (Some calls) xs ys = ap Some (append_assoc calls xs ys)

pub reads-more : (names : List (List ℕ)) (file : ℕ) → file < length names → reads (take (file + 1) names) ≡ reads (take file names) ++ read_of false (name_at names file) ∷ []
reads-more names file within = map_more (read_of false) names file [] within

-- the reading of a file ended the reading of all
pub stops_at : (T : Type 0) (names : List (List ℕ)) (held : Option Files) (file : ℕ) (asked middle last : Option (List ShelfCall)) → file < length names → AreReadable held (take file names)
    → middle ≡ asked_then asked (reads (take file names)) → (refusal : Refusal) → StopsAt names file held refusal → last ≡ asked_then middle (calls_of {T = T} (name_at names file) (Err refusal)) → Stops names held asked last refusal
stops_at T names held file asked middle last within before said (ReadFailed at) e after =
    let here : at < length names = omega arith in (
      reads (take at names) ++ read_of true (name_at names at) ∷ [],
      (here, subst (λ k. AreReadable held (take k names)) (sym e) before, refl),
      after ∙ ap (λ calls. asked_then calls (read_of true (name_at names file) ∷ [])) said ∙ asked_then-twice asked (reads (take file names)) (read_of true (name_at names file) ∷ [])
          ∙ ap (λ k. asked_then asked (reads (take k names) ++ read_of true (name_at names k) ∷ [])) (sym e),
    )
stops_at T names held file asked middle last within before said (TooLong at) e after =
    let same = e.0 in
    let here : at < length names = omega arith in (
      reads (take (at + 1) names),
      (here, subst (λ k. AreReadable held (take k names)) (sym same) before, subst (λ k. IsTooLong held (name_at names k)) (sym same) e.1, refl),
      after ∙ ap (λ calls. asked_then calls (read_of false (name_at names file) ∷ [])) said ∙ asked_then-twice asked (reads (take file names)) (read_of false (name_at names file) ∷ [])
          ∙ ap (asked_then asked) (sym (reads-more names file within)) ∙ ap (λ k. asked_then asked (reads (take (k + 1) names))) (sym same),
    )
stops_at T names held file asked middle last within before said NoMemory e after =
    (reads (take file names), (file, omega arith, refl), after ∙ ap (λ calls. asked_then calls []) said ∙ asked_then-twice asked (reads (take file names)) [] ∙ ap (asked_then asked) (append-nil (reads (take file names))))
stops_at T names held file asked middle last within before said _ e after = absurd e

-- a call that read a file asked for it
pub asked-read : (names : List (List ℕ)) (file : ℕ) (asked middle last : Option (List ShelfCall)) → file < length names → middle ≡ asked_then asked (reads (take file names)) → last ≡ asked_then middle (read_of false (name_at names file) ∷ []) → last ≡ asked_then asked (reads (take (file + 1) names))
asked-read names file asked middle last within said after =
    after ∙ ap (λ calls. asked_then calls (read_of false (name_at names file) ∷ [])) said ∙ asked_then-twice asked (reads (take file names)) (read_of false (name_at names file) ∷ []) ∙ ap (asked_then asked) (sym (reads-more names file within))

-- no call
pub asked_then-nothing : (asked : Option (List ShelfCall)) → asked ≡ asked_then asked []
asked_then-nothing None = refl
asked_then-nothing (Some calls) = ap Some (sym (append-nil calls))

-- Lines that are written one after another.
use Rattle.std.proofs.Common.{◌≡◌, ℕ, zero, suc, ◌+◌, ◌<◌, ◌≤◌, List, [], ◌∷◌, ◌++◌, take, length, get_or, Option, Some, sym, ap, ◌∙◌, subst, append_assoc, arith, ⊎_elim}
use Rattle.std.specs.List.{concat, slice_get}
use Rattle.std.specs.Io.KnownBytes.{Appends}
use Rattle.std.proofs.Math.Seq.{take-append-add, take-length}
use Rattle.std.proofs.lemmas.List.{take_more, take_all, take-append-le, append-nil}
use Rattle.std.proofs.lemmas.List.Folds.{concat-append}
use Rattle.std.proofs.lemmas.Option.{slice_get_within, get_or_from_slice_get}
use Rattle.std.proofs.lemmas.Bool.{cases_lt}
use Rattle.mre_outside.specs.Sinks.{AppendsPrefix}
use Rattle.mre_outside.proofs.Streams.{Appends-twice}

-- the lines before one, that line, and the rest
parts : (ls : List (List ℕ)) (k : ℕ) (line : List ℕ) → slice_get ls k ≡ Some line → (rest : List ℕ) × (concat ls ≡ concat (take k ls) ++ (line ++ rest))
parts [] k line at = absurd (cc)
parts (l ∷ ls) zero line at = let same : l ≡ line = cc in (concat ls, ap (λ x. x ++ concat ls) same)
parts (l ∷ ls) (suc k) line at =
    let rest = parts ls k line at in (rest.0, ap (λ x. l ++ x) rest.1 ∙ sym (append_assoc l (concat (take k ls)) (line ++ rest.0)))

-- the lines up to one, that line included
more : (ls : List (List ℕ)) (k : ℕ) (line : List ℕ) → slice_get ls k ≡ Some line → concat (take (k + 1) ls) ≡ concat (take k ls) ++ line
more ls k line at =
    ap concat (take_more ls k [] (slice_get_within ls k line at)) ∙ concat-append (take k ls) (get_or ls k [] ∷ [])
    ∙ ap (λ x. concat (take k ls) ++ x) (append-nil (get_or ls k []) ∙ get_or_from_slice_get ls k line [] at)

-- a list and a prefix of the next are a prefix of all
prefix_of_parts : (xs ys rest : List ℕ) (count : ℕ) → (n : ℕ) × (take n (xs ++ (ys ++ rest)) ≡ xs ++ take count ys)
prefix_of_parts xs ys rest count =
    ⊎_elim
    (λ (short : count < length ys). (length xs + count, take-append-add xs (ys ++ rest) count ∙ ap (λ l. xs ++ l) (take-append-le count ys rest (omega arith))))
    (λ (long : length ys ≤ count). (
      length xs + length ys,
      take-append-add xs (ys ++ rest) (length ys) ∙ ap (λ l. xs ++ l) (take-append-le (length ys) ys rest (omega arith) ∙ take-length ys ∙ sym (take_all count ys long)),
    ))
    (cases_lt count (length ys))

-- one line more was written
pub wrote_line : (ls : List (List ℕ)) (k : ℕ) (line : List ℕ) → slice_get ls k ≡ Some line → (old mid new : Option (List ℕ))
    → Appends old mid (concat (take k ls)) → Appends mid new line → Appends old new (concat (take (k + 1) ls))
wrote_line ls k line at old mid new before here =
    subst (Appends old new) (sym (more ls k line at)) (Appends-twice old mid new (concat (take k ls)) line before here)

-- a part of a line was written, and with it a prefix of all
pub wrote_part : (ls : List (List ℕ)) (k : ℕ) (line : List ℕ) → slice_get ls k ≡ Some line → (old mid new : Option (List ℕ))
    → Appends old mid (concat (take k ls)) → AppendsPrefix mid new line → AppendsPrefix old new (concat ls)
wrote_part ls k line at old mid new before here =
    let split = parts ls k line at in
    let prefix = prefix_of_parts (concat (take k ls)) line split.0 here.0 in
    (prefix.0, subst (Appends old new) (sym (ap (take prefix.0) split.1 ∙ prefix.1)) (Appends-twice old mid new (concat (take k ls)) (take here.0 line) before here.1))

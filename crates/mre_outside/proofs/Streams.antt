-- Bytes that are written piece by piece.
use Rattle.std.proofs.Common.{◌≡◌, ℕ, ◌+◌, ◌-◌, List, [], ◌++◌, Option, Some, None, take, drop, length, sym, ◌∙◌, ap, subst, arith, append_assoc, length-drop}
use Rattle.std.proofs.Math.Seq.{take-add}
use Rattle.std.proofs.lemmas.List.{drop-drop, take_all, append-nil}
use Rattle.std.specs.Io.KnownBytes.{Appends, Keeps}

-- ---- appended bytes
-- nothing was appended
pub Appends-nothing : (old new : Option (List ℕ)) → new ≡ old → Appends old new []
Appends-nothing old new e = subst (λ now. Appends old now []) (sym e) (same old)
  where
    same : (known : Option (List ℕ)) → Appends known known []
    same None = tt
    same (Some xs) = sym (append-nil xs)

-- one list after another
pub Appends-twice : (old mid new : Option (List ℕ)) (xs ys : List ℕ) → Appends old mid xs → Appends mid new ys → Appends old new (xs ++ ys)
Appends-twice None mid new xs ys first then = tt
Appends-twice (Some a) None new xs ys first then = absurd first
Appends-twice (Some a) (Some b) None xs ys first then = absurd then
Appends-twice (Some a) (Some b) (Some c) xs ys first then = then ∙ ap (λ front. front ++ ys) first ∙ append_assoc a xs ys

-- a list, and then nothing
Appends-Keeps : (old mid new : Option (List ℕ)) (xs : List ℕ) → Appends old mid xs → Keeps mid new → Appends old new xs
Appends-Keeps None mid new xs first same = tt
Appends-Keeps (Some a) None new xs first same = absurd first
Appends-Keeps (Some a) (Some b) None xs first same = absurd same
Appends-Keeps (Some a) (Some b) (Some c) xs first same = same ∙ first

-- ---- a loop that writes
-- the bytes before the rest are appended
pub record IsWritten (old new : Option (List ℕ)) (bytes rest : List ℕ) : Type 0 where
  pub count : ℕ
  pub left : rest ≡ drop count bytes
  pub appended : Appends old new (take count bytes)

-- a writer that took the first bytes of the rest leaves the others
pub IsWritten_more : (old mid new : Option (List ℕ)) (bytes rest : List ℕ) (n : ℕ) → IsWritten old mid bytes rest → Appends mid new (take n rest) → IsWritten old new bytes (take (length rest - n) (drop n rest))
IsWritten_more old mid new bytes rest n so_far took = record {
  count = so_far.count + n;
  left = take_all (length rest - n) (drop n rest) (omega (arith, length-drop n rest)) ∙ ap (drop n) so_far.left ∙ drop-drop n so_far.count bytes;
  appended = subst (Appends old new) (ap (λ ys. take so_far.count bytes ++ take n ys) so_far.left ∙ sym (take-add so_far.count n bytes)) (Appends-twice old mid new _ _ so_far.appended took);
}

-- a writer that failed took nothing
pub IsWritten_kept : (old mid new : Option (List ℕ)) (bytes rest : List ℕ) → IsWritten old mid bytes rest → Keeps mid new → IsWritten old new bytes rest
IsWritten_kept old mid new bytes rest so_far same = record {
  count = so_far.count;
  left = so_far.left;
  appended = Appends-Keeps old mid new _ so_far.appended same;
}

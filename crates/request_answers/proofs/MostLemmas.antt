-- The largest number of parameters of some signatures and of one more.
use Rattle.std.proofs.Common.{◌≡◌, ℕ, zero, suc, ◌+◌, max, List, [], ◌∷◌, take, length, Some, sym, ap, ◌∙◌, add-one, arith}
use Rattle.std.specs.Prelude.{slice_get}
use Rattle.std.proofs.lemmas.Option.{same_Some}
use Rattle.model_kit.specs.declared.vocabulary.Signature.{Signature}
use Rattle.request_answers.specs.Counts.{most_of}

max-assoc : (a b c : ℕ) → max a (max b c) ≡ max (max a b) c
max-assoc a b c = omega arith

most_suc : (signatures : List Signature) (n : ℕ) (signature : Signature) → slice_get signatures n ≡ Some signature
    → most_of (take (suc n) signatures) ≡ max (most_of (take n signatures)) (length signature.params)
most_suc [] n signature at = absurd (cc)
most_suc (s ∷ signatures) zero signature at = let same : s ≡ signature = same_Some s signature at in ap (λ (t : Signature). max (length t.params) 0) same ∙ omega arith
most_suc (s ∷ signatures) (suc n) signature at =
    ap (max (length s.params)) (most_suc signatures n signature at) ∙ max-assoc (length s.params) (most_of (take n signatures)) (length signature.params)

pub most_more : (signatures : List Signature) (n : ℕ) (signature : Signature) (old new : ℕ) → slice_get signatures n ≡ Some signature → old ≡ most_of (take n signatures)
    → new ≡ max old (length signature.params) → new ≡ most_of (take (n + 1) signatures)
most_more signatures n signature old new at before is =
    is ∙ ap (λ most. max most (length signature.params)) before ∙ sym (most_suc signatures n signature at) ∙ sym (ap (λ k. most_of (take k signatures)) (add-one n))

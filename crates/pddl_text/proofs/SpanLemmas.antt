-- The words of a text are in its bytes where they say, one after another.
use Rattle.std.proofs.Common.{◌≡◌, ℕ, ◌+◌, ◌-◌, ◌≤◌, List, [], ◌∷◌, ◌++◌, length, take, drop, sym, ap, subst, ◌∙◌, refl, arith, append_assoc, length-append}
use Rattle.std.specs.Prelude.{slice_range}
use Rattle.std.specs.List.{AllByRecursion}
use Rattle.std.specs.Str.{str_to_ascii_lowercase}
use Rattle.std.proofs.Math.Seq.{take-append_seam, drop-append_seam}
use Rattle.pddl_text.specs.declared.place.Place.{Place}
use Rattle.pddl_text.specs.declared.place.Spot.{Spot}
use Rattle.pddl_text.specs.Places.{start, after_all, past_of}
use Rattle.pddl_text.specs.Spans.{IsWordAt, IsTokenIn, SpansAscend}
use Rattle.pddl_text.specs.Tokens.{Token, Word, Open, Close, Stray, HasTokens, end, white, comment, opening, closing, word, stray}
use Rattle.pddl_text.proofs.TokenLemmas.{after_all-append, position-after_all}

spans_lower : (low from to : ℕ) (tokens : List Token) → low ≤ from → SpansAscend from to tokens → SpansAscend low to tokens
spans_lower low from to [] below spans = omega arith
spans_lower low from to (Word text at first past ∷ tokens) below spans = (omega arith, spans.1, spans.2)
spans_lower low from to (Open at ∷ tokens) below spans = spans_lower (low + 1) (from + 1) to tokens (omega arith) spans
spans_lower low from to (Close at ∷ tokens) below spans = spans_lower (low + 1) (from + 1) to tokens (omega arith) spans
spans_lower low from to (Stray at ∷ tokens) below spans = spans_lower (low + 1) (from + 1) to tokens (omega arith) spans

-- the spans after some bytes, with positions counted by length
spans_from : (s : Spot) (front rest : List ℕ) (tokens : List Token) → SpansAscend (after_all s front).position ((after_all s front).position + length rest) tokens
    → SpansAscend (s.position + length front) (s.position + length (front ++ rest)) tokens
spans_from s front rest tokens spans =
    let from-is : (after_all s front).position ≡ s.position + length front = position-after_all s front in
    let to-is : (s.position + length front) + length rest ≡ s.position + length (front ++ rest) = omega (arith, length-append front rest) in
    subst (λ (n : ℕ). SpansAscend (s.position + length front) n tokens) to-is
    (subst (λ (n : ℕ). SpansAscend n (n + length rest) tokens) from-is spans)

pub spans_ascend : {s : Spot} {bytes : List ℕ} {tokens : List Token} → HasTokens s bytes tokens → SpansAscend s.position (s.position + length bytes) tokens
spans_ascend (end {s = s}) = omega arith
spans_ascend (white {s = s} {b = b} {rest = bytes} {tokens = tokens} is more) =
    spans_lower s.position (s.position + 1) (s.position + length (b ∷ bytes)) tokens (omega arith) (spans_from s (b ∷ []) bytes tokens (spans_ascend more))
spans_ascend (comment {s = s} inside rest {tokens = tokens} plain ends more) =
    spans_lower s.position (s.position + length (59 ∷ inside)) (s.position + length (59 ∷ inside ++ rest)) tokens (omega arith) (spans_from s (59 ∷ inside) rest tokens (spans_ascend more))
spans_ascend (opening {s = s} {rest = bytes} {tokens = tokens} more) = spans_from s (40 ∷ []) bytes tokens (spans_ascend more)
spans_ascend (closing {s = s} {rest = bytes} {tokens = tokens} more) = spans_from s (41 ∷ []) bytes tokens (spans_ascend more)
spans_ascend (word {s = s} b letters rest {tokens = tokens} all ends more) = (omega arith, omega arith, spans_from s (b ∷ letters) rest tokens (spans_ascend more))
spans_ascend (stray {s = s} {b = b} {rest = bytes} {tokens = tokens} is more) = spans_from s (b ∷ []) bytes tokens (spans_ascend more)

-- a word after a front of the bytes
pub word_at : (front letters rest : List ℕ) → IsWordAt (front ++ (letters ++ rest)) (str_to_ascii_lowercase letters) (past_of front) (length front) (length front + length letters)
word_at front letters rest =
    let n-is : (length front + length letters) - length front ≡ length letters = omega arith in
    let part-is : slice_range (front ++ (letters ++ rest)) (length front) (length front + length letters) ≡ letters =
    ap (λ (n : ℕ). take n (drop (length front) (front ++ (letters ++ rest)))) n-is
    ∙ ap (take (length letters)) (drop-append_seam front (letters ++ rest)) ∙ take-append_seam letters rest
    in
    record {
      letters = ap str_to_ascii_lowercase (sym part-is);
      place = ap past_of (sym (take-append_seam front (letters ++ rest)));
    }

word_here : (whole front letters rest : List ℕ) (s : Spot) → whole ≡ front ++ (letters ++ rest) → s ≡ after_all start front
    → IsWordAt whole (str_to_ascii_lowercase letters) s.place s.position (s.position + length letters)
word_here whole front letters rest s whole-is s-is =
    let position-is : s.position ≡ length front = ap (λ (x : Spot). x.position) s-is ∙ position-after_all start front ∙ omega arith in
    let place-is : s.place ≡ past_of front = ap (λ (x : Spot). x.place) s-is in
    subst (λ (bytes : List ℕ). IsWordAt bytes (str_to_ascii_lowercase letters) s.place s.position (s.position + length letters)) (sym whole-is)
    (subst (λ (n : ℕ). IsWordAt (front ++ (letters ++ rest)) (str_to_ascii_lowercase letters) s.place n (n + length letters)) (sym position-is)
    (subst (λ (at : Place). IsWordAt (front ++ (letters ++ rest)) (str_to_ascii_lowercase letters) at (length front) (length front + length letters)) (sym place-is)
    (word_at front letters rest)))

-- a further part of the bytes is moved to the front
moved : (whole front part rest : List ℕ) → whole ≡ front ++ (part ++ rest) → whole ≡ (front ++ part) ++ rest
moved whole front part rest whole-is = whole-is ∙ sym (append_assoc front part rest)

moved_spot : (front part : List ℕ) (s : Spot) → s ≡ after_all start front → after_all s part ≡ after_all start (front ++ part)
moved_spot front part s s-is = ap (λ (x : Spot). after_all x part) s-is ∙ sym (after_all-append start front part)

words_after : {s : Spot} {bytes : List ℕ} {tokens : List Token} → HasTokens s bytes tokens → (whole front : List ℕ) → whole ≡ front ++ bytes → s ≡ after_all start front → AllByRecursion (IsTokenIn whole) tokens
words_after end whole front whole-is s-is = tt
words_after (white {s = s} {b = b} {rest = bytes} is more) whole front whole-is s-is =
    words_after more whole (front ++ b ∷ []) (moved whole front (b ∷ []) bytes whole-is) (moved_spot front (b ∷ []) s s-is)
words_after (comment {s = s} inside rest plain ends more) whole front whole-is s-is =
    words_after more whole (front ++ 59 ∷ inside) (moved whole front (59 ∷ inside) rest whole-is) (moved_spot front (59 ∷ inside) s s-is)
words_after (opening {s = s} {rest = bytes} more) whole front whole-is s-is =
    (tt, words_after more whole (front ++ 40 ∷ []) (moved whole front (40 ∷ []) bytes whole-is) (moved_spot front (40 ∷ []) s s-is))
words_after (closing {s = s} {rest = bytes} more) whole front whole-is s-is =
    (tt, words_after more whole (front ++ 41 ∷ []) (moved whole front (41 ∷ []) bytes whole-is) (moved_spot front (41 ∷ []) s s-is))
words_after (word {s = s} b letters rest all ends more) whole front whole-is s-is = (
  word_here whole front (b ∷ letters) rest s whole-is s-is,
  words_after more whole (front ++ b ∷ letters) (moved whole front (b ∷ letters) rest whole-is) (moved_spot front (b ∷ letters) s s-is),
)
words_after (stray {s = s} {b = b} {rest = bytes} is more) whole front whole-is s-is =
    (tt, words_after more whole (front ++ b ∷ []) (moved whole front (b ∷ []) bytes whole-is) (moved_spot front (b ∷ []) s s-is))

pub words_are_in : (bytes : List ℕ) (tokens : List Token) → HasTokens start bytes tokens → AllByRecursion (IsTokenIn bytes) tokens
words_are_in bytes tokens has = words_after has bytes [] refl refl

-- each token takes a byte or more
pub tokens_few : (from to : ℕ) (tokens : List Token) → SpansAscend from to tokens → from + length tokens ≤ to
tokens_few from to [] spans = omega arith
tokens_few from to (Word text at first past ∷ tokens) spans = omega (arith, spans.0, spans.1, tokens_few past to tokens spans.2)
tokens_few from to (Open at ∷ tokens) spans = omega (arith, tokens_few (from + 1) to tokens spans)
tokens_few from to (Close at ∷ tokens) spans = omega (arith, tokens_few (from + 1) to tokens spans)
tokens_few from to (Stray at ∷ tokens) spans = omega (arith, tokens_few (from + 1) to tokens spans)

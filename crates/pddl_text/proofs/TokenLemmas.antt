-- The machine that reads tokens finds the tokens of the rules, and each text has exactly one list of them.
use Rattle.std.proofs.Common.{◌≡◌, ◌≢◌, ℕ, ◌+◌, Bool, true, false, cond, List, [], ◌∷◌, ◌++◌, length, map, sym, ap, subst, ◌∙◌, refl, arith, append_assoc}
use Rattle.std.specs.Prelude.{◌==◌, IsTrue}
use Rattle.std.specs.List.{AllByRecursion}
use Rattle.std.specs.Char.{to_ascii_lowercase}
use Rattle.std.proofs.lemmas.List.{append-nil, map-append}
use Rattle.std.proofs.lemmas.Bool.Decides.{nat_tests}
use Rattle.pddl_text.specs.declared.bytes.ByteKind.{ByteKind}
use Rattle.pddl_text.specs.declared.bytes.ByteKind.TheVariants as sort
use Rattle.pddl_text.specs.declared.place.Spot.{Spot}
use Rattle.pddl_text.specs.Bytes.{is_white, is_word_byte, is_stray, kind, OnOneLine, AreWordBytes}
use Rattle.pddl_text.specs.Places.{after, after_all}
use Rattle.pddl_text.specs.Tokens.{Token, Word, Open, Close, Stray, HasTokens, EndsWord, EndsLine, end, white, comment, opening, closing, word, stray}
use Rattle.pddl_text.specs.Reading.{Within, Nothing, Comment, InWord, tokens_at, tokens_from}

kind_white : (b : ℕ) → IsTrue (is_white b) → kind b ≡ sort.White
kind_white b is = grind (arith, nat_tests)

kind_letter : (b : ℕ) → is_word_byte b ≡ true → kind b ≡ sort.Letter
kind_letter b is = grind (arith, nat_tests)

kind_stray : (b : ℕ) → IsTrue (is_stray b) → kind b ≡ sort.Stray
kind_stray b is = grind (arith, nat_tests)

pub not_feed : (b : ℕ) → b ≢ 10 → (b == 10) ≡ false
not_feed b other = grind (arith, nat_tests)

pub no_feed : (b : ℕ) → (b == 10) ≡ false → b ≢ 10
no_feed b is = grind (arith, nat_tests)

-- a comment is read to the end of its line
in_comment : (s : Spot) (inside rest : List ℕ) → OnOneLine inside → EndsLine rest → tokens_from Comment s (inside ++ rest) ≡ tokens_from Nothing (after_all s inside) rest
in_comment s [] [] plain ends = refl
in_comment s [] (b ∷ rest) plain ends = rw ends refl
in_comment s (b ∷ inside) rest plain ends =
    ap (λ (t : Bool). tokens_from (cond t Nothing Comment) (after s b) (inside ++ rest)) (not_feed b plain.0) ∙ in_comment (after s b) inside rest plain.1 ends

-- a word is read to its last letter
in_word : (text : List ℕ) (from s : Spot) (letters rest : List ℕ) → AreWordBytes letters → EndsWord rest
    → tokens_from (InWord text from) s (letters ++ rest) ≡ Word (text ++ map to_ascii_lowercase letters) from.place from.position (s.position + length letters) ∷ tokens_from Nothing (after_all s letters) rest
in_word text from s [] [] all ends = let same : s.position ≡ s.position + 0 = omega arith in rw (append-nil text) (ap (λ (n : ℕ). Word text from.place from.position n ∷ []) same)
in_word text from s [] (b ∷ rest) all ends =
    let same : s.position ≡ s.position + 0 = omega arith in
    let next : Within → List Token = λ within. tokens_from within (after s b) rest in
    ap (λ (t : Bool). cond t (next (InWord (text ++ to_ascii_lowercase b ∷ []) from)) (Word text from.place from.position s.position ∷ tokens_at (kind b) s b next)) ends
    ∙ rw (append-nil text) (ap (λ (n : ℕ). Word text from.place from.position n ∷ tokens_at (kind b) s b next) same)
in_word text from s (b ∷ letters) rest all ends =
    let next = in_word (text ++ to_ascii_lowercase b ∷ []) from (after s b) letters rest all.1 ends in
    let text-is : (text ++ to_ascii_lowercase b ∷ []) ++ map to_ascii_lowercase letters ≡ text ++ map to_ascii_lowercase (b ∷ letters) = append_assoc text (to_ascii_lowercase b ∷ []) (map to_ascii_lowercase letters) in
    let past-is : (s.position + 1) + length letters ≡ s.position + length (b ∷ letters) = omega arith in
    rw all.0 (next ∙ ap (λ (t : List ℕ). Word t from.place from.position ((s.position + 1) + length letters) ∷ tokens_from Nothing (after_all (after s b) letters) rest) text-is
    ∙ ap (λ (n : ℕ). Word (text ++ map to_ascii_lowercase (b ∷ letters)) from.place from.position n ∷ tokens_from Nothing (after_all (after s b) letters) rest) past-is)

-- the machine finds the tokens of the rules
pub tokens_are : {s : Spot} {bytes : List ℕ} {tokens : List Token} → HasTokens s bytes tokens → tokens_from Nothing s bytes ≡ tokens
tokens_are end = refl
tokens_are (white {b = b} is more) = rw (kind_white b is) (tokens_are more)
tokens_are (comment {s = s} inside rest plain ends more) = in_comment (after s 59) inside rest plain ends ∙ tokens_are more
tokens_are (opening {s = s} more) = ap (λ (tokens : List Token). Open s.place ∷ tokens) (tokens_are more)
tokens_are (closing {s = s} more) = ap (λ (tokens : List Token). Close s.place ∷ tokens) (tokens_are more)
tokens_are (word {s = s} b letters rest all ends more) =
    let text = map to_ascii_lowercase (b ∷ letters) in
    let past-is : (s.position + 1) + length letters ≡ s.position + length (b ∷ letters) = omega arith in
    rw (kind_letter b all.0) (in_word (to_ascii_lowercase b ∷ []) s (after s b) letters rest all.1 ends
    ∙ ap (λ (n : ℕ). Word text s.place s.position n ∷ tokens_from Nothing (after_all s (b ∷ letters)) rest) past-is
    ∙ ap (λ (tokens : List Token). Word text s.place s.position (s.position + length (b ∷ letters)) ∷ tokens) (tokens_are more))
tokens_are (stray {s = s} {b = b} is more) = rw (kind_stray b is) (ap (λ (tokens : List Token). Stray s.place ∷ tokens) (tokens_are more))

pub after_all-append : (s : Spot) (front rest : List ℕ) → after_all s (front ++ rest) ≡ after_all (after_all s front) rest
after_all-append s [] rest = refl
after_all-append s (b ∷ front) rest = after_all-append (after s b) front rest

pub all-append : (P : ℕ → Type 0) (xs ys : List ℕ) → AllByRecursion P xs → AllByRecursion P ys → AllByRecursion P (xs ++ ys)
all-append P [] ys front back = back
all-append P (x ∷ xs) ys front back = (front.0, all-append P xs ys front.1 back)

-- what the machine finds, in each of the three states that bytes can be read in
record Finds (bytes : List ℕ) : Type 0 where
  between : (s : Spot) → HasTokens s bytes (tokens_from Nothing s bytes)
  in_line : (s : Spot) (inside : List ℕ) → OnOneLine inside → HasTokens s (59 ∷ inside ++ bytes) (tokens_from Comment (after_all s (59 ∷ inside)) bytes)
  in_run : (s : Spot) (b : ℕ) (letters : List ℕ) → AreWordBytes (b ∷ letters)
      → HasTokens s (b ∷ letters ++ bytes) (tokens_from (InWord (map to_ascii_lowercase (b ∷ letters)) s) (after_all s (b ∷ letters)) bytes)

-- the first byte begins what its kind says
finds_at : (k : ByteKind) (s : Spot) (b : ℕ) (bytes : List ℕ) → kind b ≡ k → Finds bytes → HasTokens s (b ∷ bytes) (tokens_at k s b (λ next. tokens_from next (after s b) bytes))
finds_at sort.White s b bytes is rest = white (grind (arith, nat_tests)) (rest.between (after s b))
finds_at sort.Semicolon s b bytes is rest =
    let b-is : b ≡ 59 = grind (arith, nat_tests) in
    subst (λ (c : ℕ). HasTokens s (c ∷ bytes) (tokens_from Comment (after s c) bytes)) (sym b-is) (rest.in_line s [] tt)
finds_at sort.Opening s b bytes is rest =
    let b-is : b ≡ 40 = grind (arith, nat_tests) in
    subst (λ (c : ℕ). HasTokens s (c ∷ bytes) (Open s.place ∷ tokens_from Nothing (after s c) bytes)) (sym b-is) (opening (rest.between (after s 40)))
finds_at sort.Closing s b bytes is rest =
    let b-is : b ≡ 41 = grind (arith, nat_tests) in
    subst (λ (c : ℕ). HasTokens s (c ∷ bytes) (Close s.place ∷ tokens_from Nothing (after s c) bytes)) (sym b-is) (closing (rest.between (after s 41)))
finds_at sort.Letter s b bytes is rest = rest.in_run s b [] (grind (arith, nat_tests), tt)
finds_at sort.Stray s b bytes is rest = stray (grind (arith, nat_tests)) (rest.between (after s b))

pub position-after_all : (s : Spot) (bytes : List ℕ) → (after_all s bytes).position ≡ s.position + length bytes
position-after_all s [] = omega arith
position-after_all s (b ∷ bytes) = position-after_all (after s b) bytes ∙ omega arith

-- a run of letters that ends here is a word
ends_run : (s : Spot) (b : ℕ) (letters rest : List ℕ) (tokens : List Token) → AreWordBytes (b ∷ letters) → EndsWord rest → HasTokens (after_all s (b ∷ letters)) rest tokens
    → HasTokens s (b ∷ letters ++ rest) (Word (map to_ascii_lowercase (b ∷ letters)) s.place s.position (after_all s (b ∷ letters)).position ∷ tokens)
ends_run s b letters rest tokens all ends more =
    subst (λ (n : ℕ). HasTokens s (b ∷ letters ++ rest) (Word (map to_ascii_lowercase (b ∷ letters)) s.place s.position n ∷ tokens)) (sym (position-after_all s (b ∷ letters)))
    (word b letters rest all ends more)

-- a byte in a comment
in_line_at : (b : ℕ) (bytes : List ℕ) → Finds bytes → (t : Bool) → (b == 10) ≡ t → (s : Spot) (inside : List ℕ) → OnOneLine inside
    → HasTokens s (59 ∷ inside ++ b ∷ bytes) (tokens_from (cond t Nothing Comment) (after (after_all s (59 ∷ inside)) b) bytes)
in_line_at b bytes rest true is s inside plain = comment inside (b ∷ bytes) plain (grind (arith, nat_tests)) (white (grind (arith, nat_tests)) (rest.between (after (after_all s (59 ∷ inside)) b)))
in_line_at b bytes rest false is s inside plain =
    let more = rest.in_line s (inside ++ b ∷ []) (all-append (λ c. c ≢ 10) inside (b ∷ []) plain (no_feed b is, tt)) in
    subst (λ (x : Spot). HasTokens s (59 ∷ inside ++ b ∷ bytes) (tokens_from Comment x bytes)) (after_all-append s (59 ∷ inside) (b ∷ []))
    (subst (λ (xs : List ℕ). HasTokens s (59 ∷ xs) (tokens_from Comment (after_all s (59 ∷ inside ++ b ∷ [])) bytes)) (append_assoc inside (b ∷ []) bytes) more)

-- a byte after a run of letters
in_run_at : (b : ℕ) (bytes : List ℕ) → Finds bytes → (t : Bool) → is_word_byte b ≡ t → (s : Spot) (c : ℕ) (letters : List ℕ) → AreWordBytes (c ∷ letters)
    → HasTokens s (c ∷ letters ++ b ∷ bytes) (cond t (tokens_from (InWord (map to_ascii_lowercase (c ∷ letters) ++ to_ascii_lowercase b ∷ []) s) (after (after_all s (c ∷ letters)) b) bytes)
    (Word (map to_ascii_lowercase (c ∷ letters)) s.place s.position (after_all s (c ∷ letters)).position ∷ tokens_at (kind b) (after_all s (c ∷ letters)) b (λ next. tokens_from next (after (after_all s (c ∷ letters)) b) bytes)))
in_run_at b bytes rest true is s c letters all =
    let more = rest.in_run s c (letters ++ b ∷ []) (all-append (λ d. is_word_byte d ≡ true) (c ∷ letters) (b ∷ []) all (is, tt)) in
    let longer : List ℕ = map to_ascii_lowercase (c ∷ letters) ++ to_ascii_lowercase b ∷ [] in
    subst (λ (x : Spot). HasTokens s (c ∷ letters ++ b ∷ bytes) (tokens_from (InWord longer s) x bytes)) (after_all-append s (c ∷ letters) (b ∷ []))
    (subst (λ (xs : List ℕ). HasTokens s (c ∷ xs) (tokens_from (InWord longer s) (after_all s (c ∷ letters ++ b ∷ [])) bytes)) (append_assoc letters (b ∷ []) bytes)
    (subst (λ (text : List ℕ). HasTokens s (c ∷ (letters ++ b ∷ []) ++ bytes) (tokens_from (InWord text s) (after_all s (c ∷ letters ++ b ∷ [])) bytes)) (map-append to_ascii_lowercase (c ∷ letters) (b ∷ [])) more))
in_run_at b bytes rest false is s c letters all = ends_run s c letters (b ∷ bytes) _ all is (finds_at (kind b) (after_all s (c ∷ letters)) b bytes refl rest)

finds : (bytes : List ℕ) → Finds bytes
finds [] = record {
  between = λ s. end;
  in_line = λ s inside plain. comment inside [] plain tt end;
  in_run = λ s b letters all. ends_run s b letters [] [] all tt end;
}
finds (b ∷ bytes) = record {
  between = λ s. finds_at (kind b) s b bytes refl (finds bytes);
  in_line = in_line_at b bytes (finds bytes) (b == 10) refl;
  in_run = in_run_at b bytes (finds bytes) (is_word_byte b) refl;
}

-- the rules give each text tokens, and they are those that the machine finds
pub has_tokens : (s : Spot) (bytes : List ℕ) → HasTokens s bytes (tokens_from Nothing s bytes)
has_tokens s bytes = (finds bytes).between s

-- the rules give a text only one list of tokens
pub same_tokens : {s : Spot} {bytes : List ℕ} {one two : List Token} → HasTokens s bytes one → HasTokens s bytes two → one ≡ two
same_tokens one two = sym (tokens_are one) ∙ tokens_are two

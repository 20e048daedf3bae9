-- The words of a plan's lines are in its bytes where they say, one after another.
use Rattle.std.proofs.Common.{◌≡◌, ◌≢◌, ℕ, ◌+◌, ◌≤◌, Bool, true, false, cond, List, [], ◌∷◌, ◌++◌, length, sym, ap, subst, ◌∙◌, refl, arith, append_assoc, length-append}
use Rattle.std.specs.Prelude.{◌==◌}
use Rattle.std.specs.List.{AllByRecursion, onto_first, join_with_byte}
use Rattle.std.specs.Char.{to_ascii_lowercase}
use Rattle.std.specs.Str.{str_to_ascii_lowercase}
use Rattle.std.proofs.lemmas.List.{append-nil, length-map}
use Rattle.std.proofs.lemmas.List.Splits.{join_with_byte-slice_split}
use Rattle.std.proofs.lemmas.Bool.Decides.{nat_tests}
use Rattle.mre_base.specs.declared.text.Text.{Text}
use Rattle.pddl_text.specs.declared.place.Place.{Place}
use Rattle.pddl_text.specs.declared.place.Spot.{Spot}
use Rattle.pddl_text.specs.declared.plan.PlanLine.{PlanLine}
use Rattle.pddl_text.specs.Bytes.{is_blank, is_space, is_name_start, is_word_byte, OnOneLine, AreWordBytes, AreBlank}
use Rattle.pddl_text.specs.Places.{start, after, past_of}
use Rattle.pddl_text.specs.Plans.{rows_of, is_empty_row, kept, AreNames, none, space, name, IsLine, RowsSpell, end, empty, full, SpellsPlan}
use Rattle.pddl_text.specs.Spans.{IsWordAt, WordsAscend, words_of}
use Rattle.pddl_text.proofs.SpanLemmas.{word_at}
use Rattle.pddl_text.proofs.TokenLemmas.{after_all-append, not_feed, no_feed}

abbrev Words : Type 0
Words = List (Text × Place)

words_lower : (bytes : List ℕ) (low from : ℕ) (words : Words) → low ≤ from → WordsAscend bytes from words → WordsAscend bytes low words
words_lower bytes low from [] below ascend = omega arith
words_lower bytes low from ((text, at) ∷ words) below ascend = (ascend.0, omega arith, ascend.2, ascend.3, ascend.4)

-- the byte after the front is at this place
abbrev IsAt : List ℕ → ℕ → ℕ → Type 0
IsAt front line column = past_of front ≡ record { line = line; column = column }

abbrev beside : Place → Place
beside at = record { line = at.line; column = at.column + 1 }

abbrev newline : Place → Place
newline at = record { line = at.line + 1; column = 1 }

after_place : (front : List ℕ) (b line column : ℕ) → b ≢ 10 → IsAt front line column → IsAt (front ++ b ∷ []) line (column + 1)
after_place front b line column other is =
    ap (λ (s : Spot). s.place) (after_all-append start front (b ∷ []))
    ∙ ap (λ (t : Bool). cond t (newline (past_of front)) (beside (past_of front))) (not_feed b other)
    ∙ ap beside is

-- bytes without a line feed are on one line
at_more : (part front : List ℕ) (line column : ℕ) → OnOneLine part → IsAt front line column → IsAt (front ++ part) line (column + length part)
at_more [] front line column plain is = rw (append-nil front) (is ∙ ap (λ (n : ℕ). record { line = line; column = n }) (omega arith))
at_more (b ∷ part) front line column plain is =
    let more = at_more part (front ++ b ∷ []) line (column + 1) plain.1 (after_place front b line column plain.0 is) in
    let column-is : (column + 1) + length part ≡ column + length (b ∷ part) = omega arith in
    ap past_of (sym (append_assoc front (b ∷ []) part)) ∙ more ∙ ap (λ (n : ℕ). record { line = line; column = n }) column-is

-- the next row begins after the line feed
at_next : (front : List ℕ) (line column : ℕ) → IsAt front line column → IsAt (front ++ 10 ∷ []) (line + 1) 1
at_next front line column is = ap (λ (s : Spot). s.place) (after_all-append start front (10 ∷ [])) ∙ ap newline is

-- ---- the words of one line

space_no_feed : (b : ℕ) → is_space b ≡ true → b ≢ 10
space_no_feed b is = grind (arith, nat_tests)

blank_no_feed : (b : ℕ) → is_blank b ≡ true → b ≢ 10
blank_no_feed b is = grind (arith, nat_tests)

letter_no_feed : (b : ℕ) → is_word_byte b ≡ true → b ≢ 10
letter_no_feed b is = grind (arith, nat_tests)

start_no_feed : (b : ℕ) → is_name_start b ≡ true → b ≢ 10
start_no_feed b is = grind (arith, nat_tests)

all_weaker : (P Q : ℕ → Type 0) → ((b : ℕ) → P b → Q b) → (bytes : List ℕ) → AllByRecursion P bytes → AllByRecursion Q bytes
all_weaker P Q weaker [] all = tt
all_weaker P Q weaker (b ∷ bytes) all = (weaker b all.0, all_weaker P Q weaker bytes all.1)

blanks_plain : (bytes : List ℕ) → AreBlank bytes → OnOneLine bytes
blanks_plain = all_weaker (λ b. is_blank b ≡ true) (λ b. b ≢ 10) blank_no_feed

letters_plain : (bytes : List ℕ) → AreWordBytes bytes → OnOneLine bytes
letters_plain = all_weaker (λ b. is_word_byte b ≡ true) (λ b. b ≢ 10) letter_no_feed

moved : (whole front part rest : List ℕ) → whole ≡ front ++ (part ++ rest) → whole ≡ (front ++ part) ++ rest
moved whole front part rest is = is ∙ sym (append_assoc front part rest)

-- one name, and the words after it
one_ascends : (whole front letters rest : List ℕ) (b line column : ℕ) (more : Words) → whole ≡ front ++ ((b ∷ letters) ++ rest) → IsAt front line column → WordsAscend whole (length front + length (b ∷ letters)) more
    → WordsAscend whole (length front) ((str_to_ascii_lowercase (b ∷ letters), record { line = line; column = column }) ∷ more)
one_ascends whole front letters rest b line column more whole-is place-is ascend =
    let text : Text = str_to_ascii_lowercase (b ∷ letters) in
    let length-is : length (b ∷ letters) ≡ length text = sym (length-map (b ∷ letters) to_ascii_lowercase) in
    let found : IsWordAt whole text (past_of front) (length front) (length front + length (b ∷ letters)) = subst (λ (bytes : List ℕ). IsWordAt bytes text (past_of front) (length front) (length front + length (b ∷ letters))) (sym whole-is) (word_at front (b ∷ letters) rest) in (
      length front,
      omega arith,
      omega arith,
      subst (λ (at : Place). IsWordAt whole text at (length front) (length front + length text)) place-is (subst (λ (n : ℕ). IsWordAt whole text (past_of front) (length front) (length front + n)) length-is found),
      subst (λ (n : ℕ). WordsAscend whole (length front + n) more) length-is ascend,
    )

names_ascend : {line column : ℕ} {inside : List ℕ} {words : Words} → AreNames line column inside words → (whole front rest : List ℕ) (more : Words) → whole ≡ front ++ (inside ++ rest) → IsAt front line column
    → WordsAscend whole (length front + length inside) more → WordsAscend whole (length front) (words ++ more)
names_ascend none whole front rest more whole-is place-is ascend = words_lower whole (length front) (length front + 0) more (omega arith) ascend
names_ascend (space {line = line} {column = column} {b = b} {rest = bytes} {words = words} is names) whole front rest more whole-is place-is ascend =
    let longer : List ℕ = front ++ b ∷ [] in
    let end-is : length front + length (b ∷ bytes) ≡ length longer + length bytes = omega (arith, length-append front (b ∷ [])) in
    words_lower whole (length front) (length longer) (words ++ more) (omega (arith, length-append front (b ∷ [])))
    (names_ascend names whole longer rest more (moved whole front (b ∷ []) (bytes ++ rest) whole-is) (after_place front b line column (space_no_feed b is) place-is)
    (subst (λ (n : ℕ). WordsAscend whole n more) end-is ascend))
names_ascend (name {line = line} {column = column} b letters after {words = words} is all ends names) whole front rest more whole-is place-is ascend =
    let longer : List ℕ = front ++ (b ∷ letters) in
    let whole-at : whole ≡ front ++ ((b ∷ letters) ++ (after ++ rest)) = whole-is ∙ ap (λ (xs : List ℕ). front ++ (b ∷ xs)) (append_assoc letters after rest) in
    let end-is : length front + length ((b ∷ letters) ++ after) ≡ length longer + length after = omega (arith, length-append front (b ∷ letters), length-append letters after) in
    let past-is : length longer ≡ length front + length (b ∷ letters) = length-append front (b ∷ letters) in
    let later = names_ascend names whole longer rest more (moved whole front (b ∷ letters) (after ++ rest) whole-at)
    (at_more (b ∷ letters) front line column (start_no_feed b is, letters_plain letters all) place-is) (subst (λ (n : ℕ). WordsAscend whole n more) end-is ascend)
    in
    one_ascends whole front letters (after ++ rest) b line column (words ++ more) whole-at place-is (subst (λ (n : ℕ). WordsAscend whole n (words ++ more)) past-is later)

-- ---- the words of all lines

regrouped : (front lead inside trail dropped rest : List ℕ)
    → front ++ (((lead ++ (40 ∷ (inside ++ (41 ∷ trail)))) ++ dropped) ++ rest) ≡ ((front ++ lead) ++ 40 ∷ []) ++ (inside ++ ((41 ∷ trail) ++ (dropped ++ rest)))
regrouped front lead inside trail dropped rest = simp append_assoc

line_ascends : (line : ℕ) (bytes dropped rest whole front : List ℕ) (words more : Words) → IsLine line bytes words → whole ≡ front ++ ((bytes ++ dropped) ++ rest) → IsAt front line 1
    → WordsAscend whole (length front + length (bytes ++ dropped)) more → WordsAscend whole (length front) (words ++ more)
line_ascends line bytes dropped rest whole front words more is whole-is place-is ascend =
    let led : List ℕ = front ++ is.lead in
    let opened : List ℕ = led ++ 40 ∷ [] in
    let whole-at : whole ≡ opened ++ (is.inside ++ ((41 ∷ is.trail) ++ (dropped ++ rest))) =
    whole-is ∙ ap (λ (xs : List ℕ). front ++ ((xs ++ dropped) ++ rest)) is.parts ∙ regrouped front is.lead is.inside is.trail dropped rest
    in
    let lead-at : IsAt led line (1 + length is.lead) = at_more is.lead front line 1 (blanks_plain is.lead is.lead_blank) place-is in
    let column-is : (1 + length is.lead) + 1 ≡ length is.lead + 2 = omega arith in
    let open-at : IsAt opened line (length is.lead + 2) = after_place led 40 line (1 + length is.lead) (grind arith) lead-at ∙ ap (λ (n : ℕ). record { line = line; column = n }) column-is in
    let led-is : length led ≡ length front + length is.lead = length-append front is.lead in
    let opened-is : length opened ≡ length led + 1 = length-append led (40 ∷ []) in
    let inner-is : length (is.inside ++ (41 ∷ is.trail)) ≡ length is.inside + length (41 ∷ is.trail) = length-append is.inside (41 ∷ is.trail) in
    let bytes-is : length bytes ≡ length is.lead + length (40 ∷ (is.inside ++ (41 ∷ is.trail))) = ap length is.parts ∙ length-append is.lead (40 ∷ (is.inside ++ (41 ∷ is.trail))) in
    let row-is : length (bytes ++ dropped) ≡ length bytes + length dropped = length-append bytes dropped in
    words_lower whole (length front) (length opened) (words ++ more) (omega arith)
    (names_ascend is.names whole opened ((41 ∷ is.trail) ++ (dropped ++ rest)) more whole-at open-at
    (words_lower whole (length opened + length is.inside) (length front + length (bytes ++ dropped)) more (omega arith) ascend))

-- what is kept of a row is its front
kept_of : (b : ℕ) (row : List ℕ) → ((dropped : List ℕ) × (row ≡ kept row ++ dropped)) → (t : Bool) → (dropped : List ℕ) × (b ∷ row ≡ cond t [] (b ∷ kept row) ++ dropped)
kept_of b row more true = (b ∷ row, refl)
kept_of b row more false = (more.0, ap (λ (xs : List ℕ). b ∷ xs) more.1)

pub kept_front : (row : List ℕ) → (dropped : List ℕ) × (row ≡ kept row ++ dropped)
kept_front [] = ([], refl)
kept_front (b ∷ row) = kept_of b row (kept_front row) (is_empty_row (b ∷ row))

no_lines : {line : ℕ} {rows : List (List ℕ)} {lines : List PlanLine} → RowsSpell line rows lines → rows ≡ [] → lines ≡ []
no_lines end is = refl
no_lines (empty empty-is more) is = absurd cc
no_lines (full row line-is more) is = absurd cc

-- the words of rows that follow a front of the bytes ascend
abbrev RowsAscend : ℕ → List (List ℕ) → List PlanLine → Type 0
RowsAscend line rows lines = (whole front : List ℕ) → whole ≡ front ++ join_with_byte 10 rows → AllByRecursion OnOneLine rows → IsAt front line 1 → WordsAscend whole (length front) (words_of lines)

tail_ascends : (line : ℕ) (row : List ℕ) (rows : List (List ℕ)) (lines : List PlanLine) → (rows ≡ [] → lines ≡ []) → RowsAscend (line + 1) rows lines → (whole front : List ℕ) → whole ≡ front ++ join_with_byte 10 (row ∷ rows)
    → OnOneLine row → AllByRecursion OnOneLine rows → IsAt front line 1 → WordsAscend whole (length front + length row) (words_of lines)
tail_ascends line row [] lines none-left rest whole front whole-is plain plains place-is =
    let length-is : length whole ≡ length front + length row = ap length whole-is ∙ length-append front row in
    let ends : length front + length row ≤ length whole = omega arith in
    subst (λ (all : List PlanLine). WordsAscend whole (length front + length row) (words_of all)) (sym (none-left refl)) ends
tail_ascends line row (next ∷ rows) lines none-left rest whole front whole-is plain plains place-is =
    let later : List ℕ = (front ++ row) ++ 10 ∷ [] in
    let whole-at : whole ≡ later ++ join_with_byte 10 (next ∷ rows) = whole-is ∙ simp append_assoc in
    let later-at : IsAt later (line + 1) 1 = at_next (front ++ row) line (1 + length row) (at_more row front line 1 plain place-is) in
    let length-is : length later ≡ (length front + length row) + 1 = length-append (front ++ row) (10 ∷ []) ∙ ap (λ (n : ℕ). n + 1) (length-append front row) in
    words_lower whole (length front + length row) (length later) (words_of lines) (omega arith) (rest whole later whole-at plains later-at)

first_row : (row : List ℕ) (rows : List (List ℕ)) → (rest : List ℕ) × (join_with_byte 10 (row ∷ rows) ≡ row ++ rest)
first_row row [] = ([], sym (append-nil row))
first_row row (next ∷ rows) = (10 ∷ join_with_byte 10 (next ∷ rows), refl)

rows_ascend : {line : ℕ} {rows : List (List ℕ)} {lines : List PlanLine} → RowsSpell line rows lines → RowsAscend line rows lines
rows_ascend end whole front whole-is plains place-is =
    let length-is : length whole ≡ length front + 0 = ap length whole-is ∙ length-append front [] in
    omega arith
rows_ascend (empty {line = line} {row = row} {rows = rows} {lines = lines} is more) whole front whole-is plains place-is =
    words_lower whole (length front) (length front + length row) (words_of lines) (omega arith)
    (tail_ascends line row rows lines (no_lines more) (rows_ascend more) whole front whole-is plains.0 plains.1 place-is)
rows_ascend (full {line = line} row {rows = rows} {words = words} {lines = lines} is more) whole front whole-is plains place-is =
    let dropped = kept_front row in
    let rest = first_row row rows in
    let whole-at : whole ≡ front ++ ((kept row ++ dropped.0) ++ rest.0) = whole-is ∙ ap (λ (xs : List ℕ). front ++ xs) (rest.1 ∙ ap (λ (xs : List ℕ). xs ++ rest.0) dropped.1) in
    line_ascends line (kept row) dropped.0 rest.0 whole front words (words_of lines) is whole-at place-is
    (subst (λ (xs : List ℕ). WordsAscend whole (length front + length xs) (words_of lines)) dropped.1
    (tail_ascends line row rows lines (no_lines more) (rows_ascend more) whole front whole-is plains.0 plains.1 place-is))

-- no row has a line feed
onto_plain : (b : ℕ) (rows : List (List ℕ)) → b ≢ 10 → AllByRecursion OnOneLine rows → AllByRecursion OnOneLine (onto_first b rows)
onto_plain b [] other plains = ((other, tt), tt)
onto_plain b (row ∷ rows) other plains = ((other, plains.0), plains.1)

cut_plain : (b : ℕ) (rows : List (List ℕ)) (t : Bool) → (b == 10) ≡ t → AllByRecursion OnOneLine rows → AllByRecursion OnOneLine (cond t ([] ∷ rows) (onto_first b rows))
cut_plain b rows true is plains = (tt, plains)
cut_plain b rows false is plains = onto_plain b rows (no_feed b is) plains

rows_plain : (bytes : List ℕ) → AllByRecursion OnOneLine (rows_of bytes)
rows_plain [] = (tt, tt)
rows_plain (b ∷ bytes) = cut_plain b (rows_of bytes) (b == 10) refl (rows_plain bytes)

pub words_ascend : (bytes : List ℕ) (lines : List PlanLine) → SpellsPlan bytes lines → WordsAscend bytes 0 (words_of lines)
words_ascend bytes lines spells = rows_ascend spells bytes [] (sym (join_with_byte-slice_split 10 bytes)) (rows_plain bytes) refl

-- A row is read as the names of a line exactly if it is a line of the form.
use Rattle.std.proofs.Common.{◌≡◌, ℕ, ◌+◌, ◌<◌, Bool, true, false, cond, List, [], ◌∷◌, ◌++◌, length, Option, Some, None, Result, Ok, sym, ap, subst, ◌∙◌, refl, arith, append_assoc, length-append}
use Rattle.std.specs.Prelude.{◌==◌, ◌&&◌, nat_lt}
use Rattle.std.specs.Char.{to_ascii_lowercase}
use Rattle.std.specs.Str.{str_to_ascii_lowercase}
use Rattle.std.proofs.lemmas.List.{append-nil}
use Rattle.std.proofs.lemmas.Bool.Decides.{nat_tests}
use Rattle.mre_base.specs.declared.text.Text.{Text}
use Rattle.pddl_text.specs.declared.fault.TextFault.{TextFault}
use Rattle.pddl_text.specs.declared.place.Place.{Place}
use Rattle.pddl_text.specs.declared.plan.PlanLine.{PlanLine}
use Rattle.pddl_text.specs.Bytes.{is_blank, is_space, is_name_start, is_word_byte, AreWordBytes, AreBlank}
use Rattle.pddl_text.specs.Plans.{AreNames, none, space, name, IsLine}
use Rattle.pddl_text.specs.PlanReading.{Row, Before, Inside, InName, Closed, RowState, inside_step, goes_on, row_from, line_of}
use Rattle.pddl_text.specs.Tokens.{EndsWord}

abbrev pub Words : Type 0
Words = List (Text × Place)

abbrev pub Read : Type 0
Read = Result PlanLine TextFault

abbrev pub read : Words → Read
read words = Ok (record { words = words })

abbrev pub at : ℕ → ℕ → Place
at line column = record { line = line; column = column }

abbrev pub in_row : Words → Row → RowState
in_row words row = record { words = words; row = row }

-- ---- a line of the form is read

-- equal columns give equal readings
same_column : (state : RowState) (line one two : ℕ) (bytes : List ℕ) → one ≡ two → row_from state (at line one) bytes ≡ row_from state (at line two) bytes
same_column state line one two bytes is = ap (λ (n : ℕ). row_from state (at line n) bytes) is

lead_read : (lead rest : List ℕ) (words : Words) (line column : ℕ) → AreBlank lead
    → row_from (in_row words Before) (at line column) (lead ++ rest) ≡ row_from (in_row words Before) (at line (column + length lead)) rest
lead_read [] rest words line column blank = same_column (in_row words Before) line column (column + 0) rest (omega arith)
lead_read (b ∷ lead) rest words line column blank =
    rw blank.0 (lead_read lead rest words line (column + 1) blank.1 ∙ same_column (in_row words Before) line ((column + 1) + length lead) (column + length (b ∷ lead)) rest (omega arith))

trail_read : (trail : List ℕ) (words : Words) (line column : ℕ) → AreBlank trail → row_from (in_row words Closed) (at line column) trail ≡ read words
trail_read [] words line column blank = refl
trail_read (b ∷ trail) words line column blank = rw blank.0 (trail_read trail words line (column + 1) blank.1)

letters_read : (letters more : List ℕ) (d : ℕ) (text : Text) (from : Place) (words : Words) (line column : ℕ) → AreWordBytes letters → is_word_byte d ≡ false
    → row_from (in_row words (InName text from)) (at line column) (letters ++ d ∷ more)
    ≡ row_from (in_row (words ++ (text ++ str_to_ascii_lowercase letters, from) ∷ []) Inside) (at line (column + length letters)) (d ∷ more)
letters_read [] more d text from words line column all ends =
    let column-is : column ≡ column + 0 = omega arith in
    rw (ends, append-nil text) (same_column (in_row (words ++ (text, from) ∷ []) Inside) line column (column + 0) (d ∷ more) column-is)
letters_read (b ∷ letters) more d text from words line column all ends =
    let longer : Text = text ++ to_ascii_lowercase b ∷ [] in
    rw all.0 (letters_read letters more d longer from words line (column + 1) all.1 ends
    ∙ ap (λ (t : Text). row_from (in_row (words ++ (t, from) ∷ []) Inside) (at line ((column + 1) + length letters)) (d ∷ more)) (append_assoc text (to_ascii_lowercase b ∷ []) (str_to_ascii_lowercase letters))
    ∙ same_column (in_row (words ++ (text ++ str_to_ascii_lowercase (b ∷ letters), from) ∷ []) Inside) line ((column + 1) + length letters) (column + length (b ∷ letters)) (d ∷ more) (omega arith))

name_is_no_space : (b : ℕ) → is_name_start b ≡ true → is_space b ≡ false
name_is_no_space b is = grind (arith, nat_tests)

name_is_no_close : (b : ℕ) → is_name_start b ≡ true → (b == 41) ≡ false
name_is_no_close b is = grind (arith, nat_tests)

-- a byte that ends a name inside the parentheses
letters_end : (letters rest trail : List ℕ) (text : Text) (from : Place) (words : Words) (line column : ℕ) → AreWordBytes letters → EndsWord rest
    → row_from (in_row words (InName text from)) (at line column) (letters ++ (rest ++ 41 ∷ trail))
    ≡ row_from (in_row (words ++ (text ++ str_to_ascii_lowercase letters, from) ∷ []) Inside) (at line (column + length letters)) (rest ++ 41 ∷ trail)
letters_end letters [] trail text from words line column all ends = letters_read letters trail 41 text from words line column all refl
letters_end letters (d ∷ rest) trail text from words line column all ends = letters_read letters (rest ++ 41 ∷ trail) d text from words line column all ends

names_read : {line column : ℕ} {inside : List ℕ} {words : Words} → AreNames line column inside words → (before : Words) (trail : List ℕ)
    → row_from (in_row before Inside) (at line column) (inside ++ 41 ∷ trail) ≡ row_from (in_row (before ++ words) Inside) (at line (column + length inside)) (41 ∷ trail)
names_read (none {line = line} {column = column}) before trail =
    rw (append-nil before) (same_column (in_row before Inside) line column (column + 0) (41 ∷ trail) (omega arith))
names_read (space {line = line} {column = column} {b = b} {rest = bytes} {words = words} is more) before trail =
    rw is (names_read more before trail ∙ same_column (in_row (before ++ words) Inside) line ((column + 1) + length bytes) (column + length (b ∷ bytes)) (41 ∷ trail) (omega arith))
names_read (name {line = line} {column = column} b letters rest {words = words} is all ends more) before trail =
    let word : Text × Place = (str_to_ascii_lowercase (b ∷ letters), at line column) in
    let begun : RowState = in_row before (InName (to_ascii_lowercase b ∷ []) (at line column)) in
    let first : row_from (in_row before Inside) (at line column) (b ∷ ((letters ++ rest) ++ 41 ∷ trail)) ≡ row_from begun (at line (column + 1)) (letters ++ (rest ++ 41 ∷ trail)) =
    rw (name_is_no_space b is, name_is_no_close b is, is) (ap (row_from begun (at line (column + 1))) (append_assoc letters rest (41 ∷ trail)))
    in
    let past-is : (column + 1) + length letters ≡ column + length (b ∷ letters) = omega arith in
    let end-is : (column + length (b ∷ letters)) + length rest ≡ column + length ((b ∷ letters) ++ rest) = omega (arith, length-append letters rest) in
    first
    ∙ letters_end letters rest trail (to_ascii_lowercase b ∷ []) (at line column) before line (column + 1) all ends
    ∙ same_column (in_row (before ++ word ∷ []) Inside) line ((column + 1) + length letters) (column + length (b ∷ letters)) (rest ++ 41 ∷ trail) past-is
    ∙ names_read more (before ++ word ∷ []) trail
    ∙ ap (λ (ws : Words). row_from (in_row ws Inside) (at line ((column + length (b ∷ letters)) + length rest)) (41 ∷ trail)) (append_assoc before (word ∷ []) words)
    ∙ same_column (in_row (before ++ word ∷ words) Inside) line ((column + length (b ∷ letters)) + length rest) (column + length ((b ∷ letters) ++ rest)) (41 ∷ trail) end-is

named_test : (words : Words) → 0 < length words → nat_lt 0 (length words) ≡ true
named_test words some = grind (arith, nat_tests)

-- a line of the form is read as its names
pub line_is_read : (line : ℕ) (bytes : List ℕ) (words : Words) → IsLine line bytes words → line_of line bytes ≡ read words
line_is_read line bytes words is =
    let opened : ℕ = 1 + length is.lead in
    let closed : ℕ = (opened + 1) + length is.inside in
    let column-is : length is.lead + 2 ≡ opened + 1 = omega arith in
    let names : AreNames line (opened + 1) is.inside words = subst (λ (n : ℕ). AreNames line n is.inside words) column-is is.names in
    let closes : row_from (in_row words Inside) (at line closed) (41 ∷ is.trail) ≡ row_from (in_row words Closed) (at line (closed + 1)) is.trail = rw (named_test words is.named) refl in
    ap (line_of line) is.parts
    ∙ lead_read is.lead (40 ∷ (is.inside ++ 41 ∷ is.trail)) [] line 1 is.lead_blank
    ∙ names_read names [] is.trail
    ∙ closes
    ∙ trail_read is.trail words line (closed + 1) is.trail_blank

-- ---- what is read is a line of the form

read-inj : (one two : Words) → read one ≡ read two → one ≡ two
read-inj one two e =
    let same : record { words = one } ≡ record { words = two } = cc in
    ap (λ (line : PlanLine). line.words) same

-- after the `)` are blanks
record TakesTrail (bytes : List ℕ) (before words : Words) : Type 0 where
  blank : AreBlank bytes
  words-is : before ≡ words

-- inside the parentheses are names, up to the `)`
record TakesInside (line column : ℕ) (bytes : List ℕ) (before words : Words) : Type 0 where
  inside : List ℕ
  trail : List ℕ
  more : Words
  parts : bytes ≡ inside ++ (41 ∷ trail)
  blank : AreBlank trail
  names : AreNames line column inside more
  words-is : words ≡ before ++ more
  named : 0 < length words

-- inside a name are its further letters, and then further names
record TakesName (line column : ℕ) (bytes : List ℕ) (text : Text) (from : Place) (before words : Words) : Type 0 where
  letters : List ℕ
  inside : List ℕ
  trail : List ℕ
  more : Words
  parts : bytes ≡ letters ++ (inside ++ (41 ∷ trail))
  all : AreWordBytes letters
  ends : EndsWord inside
  blank : AreBlank trail
  names : AreNames line (column + length letters) inside more
  words-is : words ≡ before ++ (text ++ str_to_ascii_lowercase letters, from) ∷ more
  named : 0 < length words

-- the form of bytes that are read, in each state that a row can be in
record Takes (line : ℕ) (bytes : List ℕ) : Type 0 where
  closed : (before words : Words) (column : ℕ) → row_from (in_row before Closed) (at line column) bytes ≡ read words → TakesTrail bytes before words
  inside : (before words : Words) (column : ℕ) → row_from (in_row before Inside) (at line column) bytes ≡ read words → TakesInside line column bytes before words
  name : (text : Text) (from : Place) (before words : Words) (column : ℕ) → row_from (in_row before (InName text from)) (at line column) bytes ≡ read words → TakesName line column bytes text from before words

-- the rest of a row, after a byte that leads to this state
abbrev pub then_from : Option RowState → ℕ → ℕ → List ℕ → Read
then_from state line column bytes = goes_on state (at line column) (λ next. row_from next (at line (column + 1)) bytes)

closed_takes : (line : ℕ) (b : ℕ) (bytes : List ℕ) → Takes line bytes → (t : Bool) → is_blank b ≡ t → (before words : Words) (column : ℕ)
    → then_from (cond t (Some (in_row before Closed)) None) line column bytes ≡ read words → TakesTrail (b ∷ bytes) before words
closed_takes line b bytes rest true is before words column e =
    let more = rest.closed before words (column + 1) e in
    record { blank = (is, more.blank); words-is = more.words-is }
closed_takes line b bytes rest false is before words column e = absurd cc

spaced : (line : ℕ) (b : ℕ) (bytes : List ℕ) (before words : Words) (column : ℕ) → is_space b ≡ true → TakesInside line (column + 1) bytes before words → TakesInside line column (b ∷ bytes) before words
spaced line b bytes before words column is more = record {
  inside = b ∷ more.inside;
  trail = more.trail;
  more = more.more;
  parts = ap (λ (xs : List ℕ). b ∷ xs) more.parts;
  blank = more.blank;
  names = space is more.names;
  words-is = more.words-is;
  named = more.named;
}

some_named : (words : Words) → nat_lt 0 (length words) ≡ true → 0 < length words
some_named words is = grind (arith, nat_tests)

ended : (line : ℕ) (b : ℕ) (bytes : List ℕ) (before words : Words) (column : ℕ) → (b == 41) ≡ true → 0 < length before → TakesTrail bytes before words → TakesInside line column (b ∷ bytes) before words
ended line b bytes before words column is some more =
    let b-is : b ≡ 41 = grind (arith, nat_tests) in
    record {
      inside = [];
      trail = bytes;
      more = [];
      parts = ap (λ (c : ℕ). c ∷ bytes) b-is;
      blank = more.blank;
      names = none;
      words-is = sym more.words-is ∙ sym (append-nil before);
      named = subst (λ (ws : Words). 0 < length ws) more.words-is some;
    }

begun : (line : ℕ) (b : ℕ) (bytes : List ℕ) (before words : Words) (column : ℕ) → is_name_start b ≡ true → TakesName line (column + 1) bytes (to_ascii_lowercase b ∷ []) (at line column) before words
    → TakesInside line column (b ∷ bytes) before words
begun line b bytes before words column is more =
    let column-is : (column + 1) + length more.letters ≡ column + length (b ∷ more.letters) = omega arith in
    record {
      inside = (b ∷ more.letters) ++ more.inside;
      trail = more.trail;
      more = (str_to_ascii_lowercase (b ∷ more.letters), at line column) ∷ more.more;
      parts = ap (λ (xs : List ℕ). b ∷ xs) (more.parts ∙ sym (append_assoc more.letters more.inside (41 ∷ more.trail)));
      blank = more.blank;
      names = name b more.letters more.inside is more.all more.ends (subst (λ (n : ℕ). AreNames line n more.inside more.more) column-is more.names);
      words-is = more.words-is;
      named = more.named;
    }

inside_takes : (line : ℕ) (b : ℕ) (bytes : List ℕ) → Takes line bytes → (t u v w : Bool) → is_space b ≡ t → (b == 41) ≡ u → is_name_start b ≡ w → (before words : Words) (column : ℕ) → nat_lt 0 (length before) ≡ v
    → then_from (cond t (Some (in_row before Inside)) (cond (u && v) (Some (in_row before Closed)) (cond w (Some (in_row before (InName (to_ascii_lowercase b ∷ []) (at line column)))) None))) line column bytes ≡ read words
    → TakesInside line column (b ∷ bytes) before words
inside_takes line b bytes rest true u v w is-space is-close is-name before words column is-some e = spaced line b bytes before words column is-space (rest.inside before words (column + 1) e)
inside_takes line b bytes rest false true true w is-space is-close is-name before words column is-some e =
    ended line b bytes before words column is-close (some_named before is-some) (rest.closed before words (column + 1) e)
inside_takes line b bytes rest false true false true is-space is-close is-name before words column is-some e =
    begun line b bytes before words column is-name (rest.name (to_ascii_lowercase b ∷ []) (at line column) before words (column + 1) e)
inside_takes line b bytes rest false true false false is-space is-close is-name before words column is-some e = absurd cc
inside_takes line b bytes rest false false v true is-space is-close is-name before words column is-some e =
    begun line b bytes before words column is-name (rest.name (to_ascii_lowercase b ∷ []) (at line column) before words (column + 1) e)
inside_takes line b bytes rest false false v false is-space is-close is-name before words column is-some e = absurd cc

-- a name goes on with a letter
lettered : (line : ℕ) (b : ℕ) (bytes : List ℕ) (text : Text) (from : Place) (before words : Words) (column : ℕ) → is_word_byte b ≡ true
    → TakesName line (column + 1) bytes (text ++ to_ascii_lowercase b ∷ []) from before words → TakesName line column (b ∷ bytes) text from before words
lettered line b bytes text from before words column is more =
    let column-is : (column + 1) + length more.letters ≡ column + length (b ∷ more.letters) = omega arith in
    record {
      letters = b ∷ more.letters;
      inside = more.inside;
      trail = more.trail;
      more = more.more;
      parts = ap (λ (xs : List ℕ). b ∷ xs) more.parts;
      all = (is, more.all);
      ends = more.ends;
      blank = more.blank;
      names = subst (λ (n : ℕ). AreNames line n more.inside more.more) column-is more.names;
      words-is = more.words-is ∙ ap (λ (t : Text). before ++ (t, from) ∷ more.more) (append_assoc text (to_ascii_lowercase b ∷ []) (str_to_ascii_lowercase more.letters));
      named = more.named;
    }

first_ends : (b : ℕ) (bytes inside trail : List ℕ) → b ∷ bytes ≡ inside ++ 41 ∷ trail → is_word_byte b ≡ false → EndsWord inside
first_ends b bytes [] trail parts is = tt
first_ends b bytes (c ∷ inside) trail parts is = let same : b ≡ c = cc in rw (← same) is

-- a name ends before this byte
name_ended : (line : ℕ) (b : ℕ) (bytes : List ℕ) (text : Text) (from : Place) (before words : Words) (column : ℕ) → is_word_byte b ≡ false
    → TakesInside line column (b ∷ bytes) (before ++ (text, from) ∷ []) words → TakesName line column (b ∷ bytes) text from before words
name_ended line b bytes text from before words column is more =
    let column-is : column ≡ column + 0 = omega arith in
    record {
      letters = [];
      inside = more.inside;
      trail = more.trail;
      more = more.more;
      parts = more.parts;
      all = tt;
      ends = first_ends b bytes more.inside more.trail more.parts is;
      blank = more.blank;
      names = subst (λ (n : ℕ). AreNames line n more.inside more.more) column-is more.names;
      words-is = more.words-is ∙ append_assoc before ((text, from) ∷ []) more.more ∙ ap (λ (t : Text). before ++ (t, from) ∷ more.more) (sym (append-nil text));
      named = more.named;
    }

name_takes : (line : ℕ) (b : ℕ) (bytes : List ℕ) → Takes line bytes → (t : Bool) → is_word_byte b ≡ t → (text : Text) (from : Place) (before words : Words) (column : ℕ)
    → then_from (cond t (Some (in_row before (InName (text ++ to_ascii_lowercase b ∷ []) from))) (inside_step (before ++ (text, from) ∷ []) (at line column) b)) line column bytes ≡ read words
    → TakesName line column (b ∷ bytes) text from before words
name_takes line b bytes rest true is text from before words column e =
    lettered line b bytes text from before words column is (rest.name (text ++ to_ascii_lowercase b ∷ []) from before words (column + 1) e)
name_takes line b bytes rest false is text from before words column e =
    let named : Words = before ++ (text, from) ∷ [] in
    name_ended line b bytes text from before words column is
    (inside_takes line b bytes rest (is_space b) (b == 41) (nat_lt 0 (length named)) (is_name_start b) refl refl refl named words column refl e)

takes : (line : ℕ) (bytes : List ℕ) → Takes line bytes
takes line [] = record {
  closed = λ before words column e. record { blank = tt; words-is = read-inj before words e };
  inside = λ before words column e. absurd cc;
  name = λ text from before words column e. absurd cc;
}
takes line (b ∷ bytes) = record {
  closed = closed_takes line b bytes (takes line bytes) (is_blank b) refl;
  inside = λ before words column e. inside_takes line b bytes (takes line bytes) (is_space b) (b == 41) (nat_lt 0 (length before)) (is_name_start b) refl refl refl before words column refl e;
  name = name_takes line b bytes (takes line bytes) (is_word_byte b) refl;
}

-- before the `(` are blanks
record TakesLead (line column : ℕ) (bytes : List ℕ) (before words : Words) : Type 0 where
  lead : List ℕ
  inside : List ℕ
  trail : List ℕ
  more : Words
  parts : bytes ≡ lead ++ (40 ∷ (inside ++ (41 ∷ trail)))
  lead_blank : AreBlank lead
  trail_blank : AreBlank trail
  names : AreNames line ((column + length lead) + 1) inside more
  words-is : words ≡ before ++ more
  named : 0 < length words

led : (line : ℕ) (b : ℕ) (bytes : List ℕ) (before words : Words) (column : ℕ) → is_blank b ≡ true → TakesLead line (column + 1) bytes before words → TakesLead line column (b ∷ bytes) before words
led line b bytes before words column is more =
    let column-is : ((column + 1) + length more.lead) + 1 ≡ (column + length (b ∷ more.lead)) + 1 = omega arith in
    record {
      lead = b ∷ more.lead;
      inside = more.inside;
      trail = more.trail;
      more = more.more;
      parts = ap (λ (xs : List ℕ). b ∷ xs) more.parts;
      lead_blank = (is, more.lead_blank);
      trail_blank = more.trail_blank;
      names = subst (λ (n : ℕ). AreNames line n more.inside more.more) column-is more.names;
      words-is = more.words-is;
      named = more.named;
    }

opened : (line : ℕ) (b : ℕ) (bytes : List ℕ) (before words : Words) (column : ℕ) → (b == 40) ≡ true → TakesInside line (column + 1) bytes before words → TakesLead line column (b ∷ bytes) before words
opened line b bytes before words column is more =
    let b-is : b ≡ 40 = grind (arith, nat_tests) in
    let column-is : column + 1 ≡ (column + 0) + 1 = omega arith in
    record {
      lead = [];
      inside = more.inside;
      trail = more.trail;
      more = more.more;
      parts = ap (λ (c : ℕ). c ∷ bytes) b-is ∙ ap (λ (xs : List ℕ). 40 ∷ xs) more.parts;
      lead_blank = tt;
      trail_blank = more.blank;
      names = subst (λ (n : ℕ). AreNames line n more.inside more.more) column-is more.names;
      words-is = more.words-is;
      named = more.named;
    }

lead_at : (line : ℕ) (b : ℕ) (bytes : List ℕ) (before words : Words) (column : ℕ) → (row_from (in_row before Before) (at line (column + 1)) bytes ≡ read words → TakesLead line (column + 1) bytes before words)
    → (t u : Bool) → is_blank b ≡ t → (b == 40) ≡ u → then_from (cond t (Some (in_row before Before)) (cond u (Some (in_row before Inside)) None)) line column bytes ≡ read words → TakesLead line column (b ∷ bytes) before words
lead_at line b bytes before words column rest true u is-blank is-open e = led line b bytes before words column is-blank (rest e)
lead_at line b bytes before words column rest false true is-blank is-open e = opened line b bytes before words column is-open ((takes line bytes).inside before words (column + 1) e)
lead_at line b bytes before words column rest false false is-blank is-open e = absurd cc

lead_takes : (line : ℕ) (bytes : List ℕ) (before words : Words) (column : ℕ) → row_from (in_row before Before) (at line column) bytes ≡ read words → TakesLead line column bytes before words
lead_takes line [] before words column e = absurd cc
lead_takes line (b ∷ bytes) before words column e = lead_at line b bytes before words column (lead_takes line bytes before words (column + 1)) (is_blank b) (b == 40) refl refl e

-- a row that is read as names is a line of the form
pub read_is_line : (line : ℕ) (bytes : List ℕ) (words : Words) → line_of line bytes ≡ read words → IsLine line bytes words
read_is_line line bytes words e =
    let lead = lead_takes line bytes [] words 1 e in
    let column-is : (1 + length lead.lead) + 1 ≡ length lead.lead + 2 = omega arith in
    record {
      lead = lead.lead;
      inside = lead.inside;
      trail = lead.trail;
      parts = lead.parts;
      lead_blank = lead.lead_blank;
      trail_blank = lead.trail_blank;
      names = subst (λ (ws : Words). AreNames line (length lead.lead + 2) lead.inside ws) (sym lead.words-is) (subst (λ (n : ℕ). AreNames line n lead.inside lead.more) column-is lead.names);
      named = lead.named;
    }

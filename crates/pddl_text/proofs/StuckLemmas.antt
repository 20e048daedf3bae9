-- The reading of a row stops exactly where the row leaves the form: after bytes with which some
-- line of the form begins.
use Rattle.std.proofs.Common.{◌≡◌, ℕ, ◌+◌, true, List, [], ◌∷◌, ◌++◌, length, Option, Some, None, Ok, Err, sym, ap, subst, ◌∙◌, refl, arith, append_assoc, length-append, inl, inr}
use Rattle.std.specs.Prelude.{◌⊎◌, nat_lt}
use Rattle.std.proofs.lemmas.List.{append-nil}
use Rattle.std.proofs.lemmas.Bool.Decides.{nat_tests}
use Rattle.mre_base.specs.declared.text.Text.{Text}
use Rattle.pddl_text.specs.declared.fault.TextFault.{TextFault}
use Rattle.pddl_text.specs.declared.fault.TextRule.TheVariants as rule
use Rattle.pddl_text.specs.declared.place.Place.{Place}
use Rattle.pddl_text.specs.Faults.{fault_at}
use Rattle.pddl_text.specs.Plans.{IsLine, BeginsLine, IsStuck, LeavesForm}
use Rattle.pddl_text.specs.PlanReading.{Row, Before, Inside, InName, Closed, RowState, row_step, row_end, row_from, row_start, line_of}
use Rattle.pddl_text.proofs.LineLemmas.{Words, Read, read, at, in_row, then_from, line_is_read, read_is_line}

-- from each state, some bytes lead to the end of a line
record Completes (state : RowState) (line column : ℕ) : Type 0 where
  more : List ℕ
  words : Words
  read-is : row_from state (at line column) more ≡ read words

named_more : (words : Words) (word : Text × Place) → nat_lt 0 (length (words ++ word ∷ [])) ≡ true
named_more words word = grind (arith, nat_tests, length-append words (word ∷ []))

completes : (row : Row) (words : Words) (line column : ℕ) → Completes (in_row words row) line column
completes Before words line column =
    let word : Text × Place = (97 ∷ [], at line ((column + 1))) in
    record { more = 40 ∷ 97 ∷ 41 ∷ []; words = words ++ word ∷ []; read-is = rw (named_more words word) refl }
completes Inside words line column =
    let word : Text × Place = (97 ∷ [], at line column) in
    record { more = 97 ∷ 41 ∷ []; words = words ++ word ∷ []; read-is = rw (named_more words word) refl }
completes (InName text from) words line column =
    record { more = 41 ∷ []; words = words ++ (text, from) ∷ []; read-is = rw (named_more words (text, from)) refl }
completes Closed words line column = record { more = []; words = words; read-is = refl }

abbrev pub failed : TextFault → Read
failed fault = Err fault

abbrev pub form_at : ℕ → ℕ → TextFault
form_at line column = fault_at (at line column) rule.Form

apart : (words : Words) (fault : TextFault) → read words ≡ failed fault → ⊥
apart words fault e = cc

-- the bytes lead from one state to another, whatever follows
abbrev Leads : RowState → ℕ → ℕ → List ℕ → RowState → Type 0
Leads state line column front there = (rest : List ℕ) → row_from state (at line column) (front ++ rest) ≡ row_from there (at line (column + length front)) rest

-- in this state the reading stops at the first byte of the rest, or the row ends too early
abbrev Stops : RowState → ℕ → ℕ → List ℕ → Type 0
Stops state line column [] = row_end state.row state.words (at line column) ≡ failed (form_at line column)
Stops state line column (b ∷ rest) = row_step state.row state.words (at line column) b ≡ None

leads_nowhere : (state : RowState) (line column : ℕ) → Leads state line column [] state
leads_nowhere state line column rest = let column-is : column ≡ column + 0 = omega arith in ap (λ (n : ℕ). row_from state (at line n) rest) column-is

leads_on : (state next there : RowState) (line column b : ℕ) (front : List ℕ) → row_step state.row state.words (at line column) b ≡ Some next → Leads next line (column + 1) front there → Leads state line column (b ∷ front) there
leads_on state next there line column b front is leads rest =
    let column-is : (column + 1) + length front ≡ column + length (b ∷ front) = omega arith in
    ap (λ (o : Option RowState). then_from o line column (front ++ rest)) is ∙ leads rest ∙ ap (λ (n : ℕ). row_from there (at line n) rest) column-is

-- where the reading of a row stops
record StopsIn (state : RowState) (line column : ℕ) (bytes : List ℕ) (fault : TextFault) : Type 0 where
  front : List ℕ
  rest : List ℕ
  there : RowState
  parts : bytes ≡ front ++ rest
  leads : Leads state line column front there
  stops : Stops there line (column + length front) rest
  fault-is : fault ≡ form_at line (column + length front)

end_stops : (row : Row) (words : Words) (line column : ℕ) (fault : TextFault) → row_end row words (at line column) ≡ failed fault → (row_end row words (at line column) ≡ failed (form_at line column)) × (fault ≡ form_at line column)
end_stops Before words line column fault e = (refl, cc)
end_stops Inside words line column fault e = (refl, cc)
end_stops (InName text from) words line column fault e = (refl, cc)
end_stops Closed words line column fault e = absurd cc

stops_here : (state : RowState) (line column : ℕ) (bytes : List ℕ) (fault : TextFault) → Stops state line column bytes → fault ≡ form_at line column → StopsIn state line column bytes fault
stops_here state line column bytes fault stops fault-is =
    let column-is : column ≡ column + 0 = omega arith in
    record {
      front = [];
      rest = bytes;
      there = state;
      parts = refl;
      leads = leads_nowhere state line column;
      stops = subst (λ (n : ℕ). Stops state line n bytes) column-is stops;
      fault-is = fault-is ∙ ap (form_at line) column-is;
    }

stops_later : (state next : RowState) (line column b : ℕ) (bytes : List ℕ) (fault : TextFault) → row_step state.row state.words (at line column) b ≡ Some next → StopsIn next line (column + 1) bytes fault → StopsIn state line column (b ∷ bytes) fault
stops_later state next line column b bytes fault is more =
    let column-is : (column + 1) + length more.front ≡ column + length (b ∷ more.front) = omega arith in
    record {
      front = b ∷ more.front;
      rest = more.rest;
      there = more.there;
      parts = ap (λ (xs : List ℕ). b ∷ xs) more.parts;
      leads = leads_on state next more.there line column b more.front is more.leads;
      stops = subst (λ (n : ℕ). Stops more.there line n more.rest) column-is more.stops;
      fault-is = more.fault-is ∙ ap (form_at line) column-is;
    }

step_stops : (state : RowState) (line column b : ℕ) (bytes : List ℕ) (fault : TextFault) → ((next : RowState) → row_from next (at line (column + 1)) bytes ≡ failed fault → StopsIn next line (column + 1) bytes fault)
    → (o : Option RowState) → row_step state.row state.words (at line column) b ≡ o → then_from o line column bytes ≡ failed fault → StopsIn state line column (b ∷ bytes) fault
step_stops state line column b bytes fault rest None is e = stops_here state line column (b ∷ bytes) fault is cc
step_stops state line column b bytes fault rest (Some next) is e = stops_later state next line column b bytes fault is (rest next e)

stops_in : (bytes : List ℕ) (state : RowState) (line column : ℕ) (fault : TextFault) → row_from state (at line column) bytes ≡ failed fault → StopsIn state line column bytes fault
stops_in [] state line column fault e = let ends = end_stops state.row state.words line column fault e in stops_here state line column [] fault ends.0 ends.1
stops_in (b ∷ bytes) state line column fault e =
    step_stops state line column b bytes fault (λ next. stops_in bytes next line (column + 1) fault) (row_step state.row state.words (at line column) b) refl e

stuck_at : (line : ℕ) (front rest : List ℕ) (there : RowState) → Leads row_start line 1 front there → Stops there line (1 + length front) rest → IsStuck line front rest
stuck_at line front [] there leads stops = λ words is.
    apart words (form_at line (1 + length front)) (sym (line_is_read line front words is) ∙ ap (line_of line) (sym (append-nil front)) ∙ leads [] ∙ stops)
stuck_at line front (b ∷ rest) there leads stops = λ begins.
    apart begins.1 (form_at line (1 + length front))
    (sym (line_is_read line ((front ++ b ∷ []) ++ begins.0) begins.1 begins.2) ∙ ap (line_of line) (append_assoc front (b ∷ []) begins.0) ∙ leads (b ∷ begins.0)
    ∙ ap (λ (o : Option RowState). then_from o line (1 + length front) begins.0) stops)

begins_at : (line : ℕ) (front : List ℕ) (there : RowState) → Leads row_start line 1 front there → BeginsLine line front
begins_at line front there leads =
    let end = completes there.row there.words line (1 + length front) in
    (end.more, end.words, read_is_line line (front ++ end.more) end.words (leads end.more ∙ end.read-is))

-- a row that isn't read leaves the form there
pub stopped_leaves : (line : ℕ) (bytes : List ℕ) (fault : TextFault) → line_of line bytes ≡ failed fault → (column : ℕ) × (fault ≡ form_at line column) × LeavesForm line bytes column
stopped_leaves line bytes fault e =
    let stop = stops_in bytes row_start line 1 fault e in (
      1 + length stop.front,
      stop.fault-is,
      record {
        before = stop.front;
        rest = stop.rest;
        parts = stop.parts;
        at = omega arith;
        goes_on = begins_at line stop.front stop.there stop.leads;
        stuck = stuck_at line stop.front stop.rest stop.there stop.leads stop.stops;
      },
    )

-- the bytes lead to a state, or stop the reading, whatever follows
abbrev Way : RowState → ℕ → ℕ → List ℕ → Type 0
Way state line column front = ((there : RowState) × Leads state line column front there) ⊎ ((fault : TextFault) × ((rest : List ℕ) → row_from state (at line column) (front ++ rest) ≡ failed fault))

way_on : (state next : RowState) (line column b : ℕ) (front : List ℕ) → row_step state.row state.words (at line column) b ≡ Some next → Way next line (column + 1) front → Way state line column (b ∷ front)
way_on state next line column b front is (inl (there, leads)) = inl (there, leads_on state next there line column b front is leads)
way_on state next line column b front is (inr (fault, fails)) = inr (fault, λ rest. ap (λ (o : Option RowState). then_from o line column (front ++ rest)) is ∙ fails rest)

way_at : (state : RowState) (line column b : ℕ) (front : List ℕ) → ((next : RowState) → Way next line (column + 1) front) → (o : Option RowState) → row_step state.row state.words (at line column) b ≡ o → Way state line column (b ∷ front)
way_at state line column b front rest None is = inr (form_at line column, λ rest. ap (λ (o : Option RowState). then_from o line column (front ++ rest)) is)
way_at state line column b front rest (Some next) is = way_on state next line column b front is (rest next)

way : (front : List ℕ) (state : RowState) (line column : ℕ) → Way state line column front
way [] state line column = inl (state, leads_nowhere state line column)
way (b ∷ front) state line column = way_at state line column b front (λ next. way front next line (column + 1)) (row_step state.row state.words (at line column) b) refl

-- bytes with which a line of the form begins lead to a state
begins_leads : (line : ℕ) (front : List ℕ) → BeginsLine line front → Way row_start line 1 front → (there : RowState) × Leads row_start line 1 front there
begins_leads line front begins (inl found) = found
begins_leads line front begins (inr (fault, fails)) = absurd (apart begins.1 fault (sym (line_is_read line (front ++ begins.0) begins.1 begins.2) ∙ fails begins.0))

ends_failed : (line : ℕ) (front : List ℕ) (there : RowState) (result : Read) → line_of line front ≡ result → row_end there.row there.words (at line (1 + length front)) ≡ result → ((words : Words) → IsLine line front words → ⊥) → result ≡ failed (form_at line (1 + length front))
ends_failed line front there (Ok found) e ends no_line = absurd (no_line found.words (read_is_line line front found.words e))
ends_failed line front there (Err fault) e ends no_line = let is = end_stops there.row there.words line (1 + length front) fault ends in ap failed is.1

steps_failed : (line b : ℕ) (front rest : List ℕ) (there : RowState) → Leads row_start line 1 front there → (BeginsLine line (front ++ b ∷ []) → ⊥) → (o : Option RowState) → row_step there.row there.words (at line (1 + length front)) b ≡ o
    → then_from o line (1 + length front) rest ≡ failed (form_at line (1 + length front))
steps_failed line b front rest there leads no_line None is = refl
steps_failed line b front rest there leads no_line (Some next) is =
    let end = completes next.row next.words line ((1 + length front) + 1) in
    let reads : line_of line ((front ++ b ∷ []) ++ end.more) ≡ read end.words =
    ap (line_of line) (append_assoc front (b ∷ []) end.more) ∙ leads (b ∷ end.more) ∙ ap (λ (o : Option RowState). then_from o line (1 + length front) end.more) is ∙ end.read-is
    in
    absurd (no_line (end.more, end.words, read_is_line line ((front ++ b ∷ []) ++ end.more) end.words reads))

rest_failed : (line : ℕ) (front rest : List ℕ) (there : RowState) → Leads row_start line 1 front there → IsStuck line front rest → line_of line (front ++ rest) ≡ failed (form_at line (1 + length front))
rest_failed line front [] there leads stuck =
    let alone = ap (line_of line) (append-nil front) in
    alone ∙ ends_failed line front there (line_of line front) refl (sym (leads []) ∙ alone) stuck
rest_failed line front (b ∷ rest) there leads stuck =
    leads (b ∷ rest) ∙ steps_failed line b front rest there leads stuck (row_step there.row there.words (at line (1 + length front)) b) refl

-- the reading of a row that leaves the form stops there
pub left_is_stopped : (line : ℕ) (bytes : List ℕ) (column : ℕ) → LeavesForm line bytes column → line_of line bytes ≡ failed (form_at line column)
left_is_stopped line bytes column left =
    let found = begins_leads line left.before left.goes_on (way left.before row_start line 1) in
    let column-is : 1 + length left.before ≡ column = omega (arith, left.at) in
    ap (line_of line) left.parts ∙ rest_failed line left.before left.rest found.0 found.1 left.stuck ∙ ap (λ (n : ℕ). failed (form_at line n)) column-is

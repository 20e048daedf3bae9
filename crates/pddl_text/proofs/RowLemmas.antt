-- How a text is cut at its line feeds, from the beginning of a row on.
use Rattle.std.proofs.Common.{◌≡◌, ◌≢◌, ℕ, ◌+◌, ◌-◌, ◌<◌, ◌≤◌, true, false, List, [], ◌∷◌, ◌++◌, length, get_or, drop, Result, Err, sym, ap, subst, ◌∙◌, arith}
use Rattle.std.specs.Prelude.{◌==◌, slice_range}
use Rattle.std.specs.List.{AllByRecursion}
use Rattle.std.proofs.lemmas.List.{take-append-drop, drop-drop, drop_more, take_rest}
use Rattle.std.proofs.lemmas.List.Edits.{between_none, between_more}
use Rattle.std.proofs.lemmas.List.Elements.{All-from_recursion}
use Rattle.std.proofs.lemmas.List.Splits.{slice_split_at, slice_split_none}
use Rattle.std.proofs.lemmas.Bool.Decides.{nat_tests}
use Rattle.pddl_text.specs.declared.fault.TextFault.{TextFault}
use Rattle.pddl_text.specs.declared.fault.Stop.{Stop}
use Rattle.pddl_text.specs.declared.fault.Stop.TheVariants as early
use Rattle.pddl_text.specs.declared.plan.PlanLine.{PlanLine}
use Rattle.pddl_text.specs.Bytes.{OnOneLine}
use Rattle.pddl_text.specs.Plans.{rows_of}
use Rattle.pddl_text.specs.Stops.{IfStopped, Finds}
use Rattle.pddl_text.proofs.TokenLemmas.{all-append, not_feed}

is_feed : (b : ℕ) → b ≡ 10 → (b == 10) ≡ true
is_feed b is = grind (arith, nat_tests)

-- no line feed is at a place from `first` on and before `place`
abbrev pub IsOneRow : List ℕ → ℕ → ℕ → Type 0
IsOneRow bytes first place = OnOneLine (slice_range bytes first place)

pub row_none : (bytes : List ℕ) (first : ℕ) → IsOneRow bytes first first
row_none bytes first = subst OnOneLine (sym (between_none bytes first)) tt

pub row_more : (bytes : List ℕ) (first place : ℕ) → first ≤ place → place < length bytes → (get_or bytes place 0 ≡ 10 → ⊥) → IsOneRow bytes first place → IsOneRow bytes first (place + 1)
row_more bytes first place within inside other row =
    subst OnOneLine (sym (between_more bytes first place 0 within inside))
    (all-append (λ b. b ≢ 10) (slice_range bytes first place) (get_or bytes place 0 ∷ []) row (other, tt))

row_split : (bytes : List ℕ) (first place : ℕ) → first ≤ place → drop first bytes ≡ slice_range bytes first place ++ drop place bytes
row_split bytes first place within =
    let place-is : first + (place - first) ≡ place = omega arith in
    sym (take-append-drop (place - first) (drop first bytes))
    ∙ ap (λ (rest : List ℕ). slice_range bytes first place ++ rest) (drop-drop (place - first) first bytes ∙ ap (λ (n : ℕ). drop n bytes) place-is)

plain_row : (bytes : List ℕ) → OnOneLine bytes → AllByRecursion (λ b. (b == 10) ≡ false) bytes
plain_row [] plain = tt
plain_row (b ∷ bytes) plain = (not_feed b plain.0, plain_row bytes plain.1)

-- a row that ends with a line feed
pub row_at : (bytes : List ℕ) (first place : ℕ) → first ≤ place → place < length bytes → get_or bytes place 0 ≡ 10 → IsOneRow bytes first place
    → rows_of (drop first bytes) ≡ slice_range bytes first place ∷ rows_of (drop (place + 1) bytes)
row_at bytes first place within inside feed row =
    ap rows_of (row_split bytes first place within ∙ ap (λ (rest : List ℕ). slice_range bytes first place ++ rest) (drop_more bytes place 0 inside))
    ∙ slice_split_at (λ b. b == 10) (slice_range bytes first place) (get_or bytes place 0) (drop (place + 1) bytes) (All-from_recursion _ _ (plain_row _ row)) (is_feed (get_or bytes place 0) feed)

-- the last row
pub row_last : (bytes : List ℕ) (first : ℕ) → IsOneRow bytes first (length bytes) → rows_of (drop first bytes) ≡ slice_range bytes first (length bytes) ∷ []
row_last bytes first row =
    subst (λ (part : List ℕ). rows_of part ≡ slice_range bytes first (length bytes) ∷ []) (take_rest bytes first)
    (slice_split_none (λ b. b == 10) (slice_range bytes first (length bytes)) (All-from_recursion _ _ (plain_row _ row)))

-- a row that stops the reading stops that of the whole plan
pub rows_stop : (why : Stop) (from : List (List ℕ) → Result (List PlanLine) TextFault) (rows : List (List ℕ)) (read : Result (List PlanLine) TextFault) → from rows ≡ read
    → IfStopped {A = Unit {0}} (Err why) (λ fault. (rows : List (List ℕ)) → from rows ≡ Err fault) → Finds (Err why) read
rows_stop (early.Fault at rule) from rows read is stops = sym is ∙ stops rows
rows_stop early.NoMemory from rows read is stops = tt

-- Members of a cube: a condition that must hold holds in every member, and a condition that may
-- hold holds in some member; and a member with one number told or left.
use Rattle.std.proofs.Common.{◌≡◌, ℕ, Bool, true, false, ◌&&◌, ◌||◌, not, nat_eq, List, [], ◌∷◌, cond, refl, sym, ap, ◌∙◌, arith, subst, ◌⊎◌, inl, inr}
use Rattle.std.specs.FinSet as set
use Rattle.std.proofs.lemmas.Bool.{or_cases, or_left, or_right, eq-eqb, eqb-true, false≢true, not-true, not-false, not_from_true, not_from_false, false_from_ne_true}
use Rattle.mre_base.proofs.SetsBelow.{contains-insert_nat, contains-remove_nat}
use Rattle.cube_kit.specs.Cubes.{Told, CubeMeaning, is_member}
use Rattle.cube_kit.proofs.CubeLemmas.{member_has, member_lacks, member_from}
use Rattle.case_kit.specs.declared.cases.When.{When}
use Rattle.case_kit.specs.declared.cases.When.TheVariants.{Always, IfTold, IfLeft}
use Rattle.case_kit.specs.declared.cases.Case.{Case}
use Rattle.case_kit.specs.Sound.{StandsAmong}
use Rattle.case_kit.specs.Members.{holds}
use Rattle.case_kit.specs.Evaluated.{may_hold, must_hold}
use Rattle.mre_base.proofs.Loops.{contains_cases, contains_here, contains_later}

-- ---- a member with one number put in or taken out
pub record IsMoved (cube : CubeMeaning) (from : Told) (place : ℕ) (has : Bool) (to : Told) : Type 0 where
  pub member : is_member cube to ≡ true
  pub at : set.contains to place ≡ has
  pub others : (k : ℕ) → nat_eq place k ≡ false → set.contains to k ≡ set.contains from k

turned : (m n : ℕ) → nat_eq m n ≡ false → nat_eq n m ≡ false
turned m n e = false_from_ne_true (nat_eq n m) (λ same. false≢true (sym e ∙ eq-eqb m n (sym (eqb-true n m same))))

false_or : (a b : Bool) → a ≡ false → (a || b) ≡ b
false_or true b e = absurd (false≢true (sym e))
false_or false b e = refl

true_not_and : (a b : Bool) → a ≡ false → (not a && b) ≡ b
true_not_and true b e = absurd (false≢true (sym e))
true_not_and false b e = refl

not_and : (a b : Bool) → a ≡ true → (not a && b) ≡ false
not_and true b e = refl
not_and false b e = absurd (false≢true e)

same_at : (s : Told) (place k : ℕ) (b : Bool) → nat_eq k place ≡ true → set.contains s place ≡ b → set.contains s k ≡ b
same_at s place k b same e = ap (set.contains s) (eqb-true k place same) ∙ e

pub move_in : (cube : CubeMeaning) (from : Told) (place : ℕ) → is_member cube from ≡ true → set.contains cube.left place ≡ false → IsMoved cube from place true (set.insert from place)
move_in cube from place member not_left =
    record {
      member = member_from cube (set.insert from place) (λ k told. contains-insert_nat from place k ∙ or_right _ _ (member_has cube from member k told)) (λ k left.
          contains-insert_nat from place k ∙ false_or (nat_eq k place) (set.contains from k) (false_from_ne_true _ (λ same. false≢true (sym (same_at cube.left place k false same not_left) ∙ left)))
          ∙ member_lacks cube from member k left);
      at = contains-insert_nat from place place ∙ or_left _ _ (eq-eqb place place refl);
      others = λ k apart. contains-insert_nat from place k ∙ false_or (nat_eq k place) (set.contains from k) (turned place k apart);
    }

pub move_out : (cube : CubeMeaning) (from : Told) (place : ℕ) → is_member cube from ≡ true → set.contains cube.told place ≡ false → IsMoved cube from place false (set.remove from place)
move_out cube from place member not_told =
    record {
      member = member_from cube (set.remove from place) (λ k told.
          contains-remove_nat from place k ∙ true_not_and (nat_eq k place) (set.contains from k) (false_from_ne_true _ (λ same. false≢true (sym (same_at cube.told place k false same not_told) ∙ told)))
          ∙ member_has cube from member k told) (λ k left. contains-remove_nat from place k ∙ none (nat_eq k place) (set.contains from k) (member_lacks cube from member k left));
      at = contains-remove_nat from place place ∙ not_and (nat_eq place place) (set.contains from place) (eq-eqb place place refl);
      others = λ k apart. contains-remove_nat from place k ∙ true_not_and (nat_eq k place) (set.contains from k) (turned place k apart);
    }
  where
    none : (a b : Bool) → b ≡ false → (not a && b) ≡ false
    none true b e = refl
    none false b e = e

-- ---- one condition
pub must_holds : (cube : CubeMeaning) (s : Told) (when : When) → is_member cube s ≡ true → must_hold cube when ≡ true → holds s when ≡ true
must_holds cube s Always member must = refl
must_holds cube s (IfTold place) member must = member_has cube s member place must
must_holds cube s (IfLeft place) member must = not_from_false _ (member_lacks cube s member place must)

pub holds_may : (cube : CubeMeaning) (s : Told) (when : When) → is_member cube s ≡ true → holds s when ≡ true → may_hold cube when ≡ true
holds_may cube s Always member on = refl
holds_may cube s (IfTold place) member on = not_from_false _ (false_from_ne_true _ (λ left. false≢true (sym (member_lacks cube s member place left) ∙ on)))
holds_may cube s (IfLeft place) member on = not_from_false _ (false_from_ne_true _ (λ told. false≢true (sym (not-true _ on) ∙ member_has cube s member place told)))

-- some member in which the condition holds or fails, as asked
abbrev pub IsSomewhere : CubeMeaning → When → Bool → Type 0
IsSomewhere cube when on = (s : Told) × (is_member cube s ≡ true) × (holds s when ≡ on)

pub may_somewhere : (cube : CubeMeaning) (s : Told) (when : When) → is_member cube s ≡ true → may_hold cube when ≡ true → IsSomewhere cube when true
may_somewhere cube s Always member may = (s, member, refl)
may_somewhere cube s (IfTold place) member may = let m = move_in cube s place member (not-true _ may) in (set.insert s place, m.member, m.at)
may_somewhere cube s (IfLeft place) member may = let m = move_out cube s place member (not-true _ may) in (set.remove s place, m.member, not_from_false _ m.at)

pub must_not_somewhere : (cube : CubeMeaning) (s : Told) (when : When) → is_member cube s ≡ true → must_hold cube when ≡ false → IsSomewhere cube when false
must_not_somewhere cube s Always member not_must = absurd (false≢true (sym not_must))
must_not_somewhere cube s (IfTold place) member not_must = let m = move_out cube s place member not_must in (set.remove s place, m.member, m.at)
must_not_somewhere cube s (IfLeft place) member not_must = let m = move_in cube s place member not_must in (set.insert s place, m.member, not_from_true _ m.at)

-- ---- the member in which only the cases hold that must: it has each number that the cube doesn't
-- leave and that a case wants to be left
abbrev with_left : CubeMeaning → When → Told → Told
with_left cube Always s = s
with_left cube (IfTold place) s = s
with_left cube (IfLeft place) s = cond (set.contains cube.left place) s (set.insert s place)

abbrev pub worst : CubeMeaning → List Case → Told
worst cube [] = cube.told
worst cube (case ∷ cases) = with_left cube case.when (worst cube cases)

among_here : (case : Case) (cases : List Case) (when : When) → case.when ≡ when → StandsAmong (case ∷ cases) when
among_here case cases when e = (case, contains_here case cases, e)

among_later : (case : Case) (cases : List Case) (when : When) → StandsAmong cases when → StandsAmong (case ∷ cases) when
among_later case cases when (c, among, e) = (c, contains_later case cases c among, e)

-- a number is in this member because it is told, or because a case wants it left and the cube
-- doesn't leave it
abbrev HasReason : CubeMeaning → List Case → ℕ → Type 0
HasReason cube cases k = (set.contains cube.told k ≡ true) ⊎ (StandsAmong cases (IfLeft k) × (set.contains cube.left k ≡ false))

reason_later : (cube : CubeMeaning) (case : Case) (cases : List Case) (k : ℕ) → HasReason cube cases k → HasReason cube (case ∷ cases) k
reason_later cube case cases k (inl told) = inl told
reason_later cube case cases k (inr (stands, open_)) = inr (among_later case cases (IfLeft k) stands, open_)

with_reason : (cube : CubeMeaning) (case : Case) (when : When) (cases : List Case) (s : Told) (k : ℕ) → case.when ≡ when → (set.contains s k ≡ true → HasReason cube cases k)
    → set.contains (with_left cube when s) k ≡ true → HasReason cube (case ∷ cases) k
with_reason cube case Always cases s k e before there = reason_later cube case cases k (before there)
with_reason cube case (IfTold place) cases s k e before there = reason_later cube case cases k (before there)
with_reason cube case (IfLeft place) cases s k e before there = by (set.contains cube.left place) refl there where
  by : (b : Bool) → set.contains cube.left place ≡ b → set.contains (cond b s (set.insert s place)) k ≡ true → HasReason cube (case ∷ cases) k
  by true left h = reason_later cube case cases k (before h)
  by false not_left h =
      elim (or_cases _ _ (sym (contains-insert_nat s place k) ∙ h)) [
        | inl same ↦ inr (among_here case cases (IfLeft k) (e ∙ ap IfLeft (sym (eqb-true k place same))), ap (set.contains cube.left) (eqb-true k place same) ∙ not_left)
        | inr old ↦ reason_later cube case cases k (before old)
      ]

worst_reason : (cube : CubeMeaning) (cases : List Case) (k : ℕ) → set.contains (worst cube cases) k ≡ true → HasReason cube cases k
worst_reason cube [] k there = inl there
worst_reason cube (case ∷ cases) k there = with_reason cube case case.when cases (worst cube cases) k refl (worst_reason cube cases k) there

with_more : (cube : CubeMeaning) (when : When) (s : Told) (k : ℕ) → set.contains s k ≡ true → set.contains (with_left cube when s) k ≡ true
with_more cube Always s k there = there
with_more cube (IfTold place) s k there = there
with_more cube (IfLeft place) s k there = by (set.contains cube.left place) where
  by : (b : Bool) → set.contains (cond b s (set.insert s place)) k ≡ true
  by true = there
  by false = contains-insert_nat s place k ∙ or_right _ _ there

worst_told : (cube : CubeMeaning) (cases : List Case) (k : ℕ) → set.contains cube.told k ≡ true → set.contains (worst cube cases) k ≡ true
worst_told cube [] k told = told
worst_told cube (case ∷ cases) k told = with_more cube case.when (worst cube cases) k (worst_told cube cases k told)

with_wanted : (cube : CubeMeaning) (s : Told) (k : ℕ) → set.contains cube.left k ≡ false → set.contains (with_left cube (IfLeft k) s) k ≡ true
with_wanted cube s k not_left = ap (λ b. set.contains (cond b s (set.insert s k)) k) not_left ∙ contains-insert_nat s k k ∙ or_left _ _ (eq-eqb k k refl)

worst_wanted : (cube : CubeMeaning) (cases : List Case) (k : ℕ) → StandsAmong cases (IfLeft k) → set.contains cube.left k ≡ false → set.contains (worst cube cases) k ≡ true
worst_wanted cube [] k (case, (i, lt, at), e) not_left = absurd (omega arith)
worst_wanted cube (first ∷ cases) k (case, among, e) not_left =
    elim (contains_cases first cases case among) [
      | inl same ↦ subst (λ when. set.contains (with_left cube when (worst cube cases)) k ≡ true) (sym (ap (λ (c : Case). c.when) same ∙ e)) (with_wanted cube (worst cube cases) k not_left)
      | inr later ↦ with_more cube first.when (worst cube cases) k (worst_wanted cube cases k (case, later, e) not_left)
    ]

-- no number is in the cases both as a told one and as a left one
abbrev pub IsOneWay : List Case → Type 0
IsOneWay cases = (place : ℕ) → StandsAmong cases (IfTold place) → StandsAmong cases (IfLeft place) → ⊥

pub worst_member : (cube : CubeMeaning) (cases : List Case) → is_member cube cube.told ≡ true → is_member cube (worst cube cases) ≡ true
worst_member cube cases live =
    member_from cube (worst cube cases) (λ k told. worst_told cube cases k told) (λ k left. false_from_ne_true _ (λ there.
    elim (worst_reason cube cases k there) [
      | inl told ↦ false≢true (sym (member_lacks cube cube.told live k left) ∙ told)
      | inr why ↦ false≢true (sym why.1 ∙ left)
    ]))

pub worst_must : (cube : CubeMeaning) (cases : List Case) → IsOneWay cases → (when : When) → StandsAmong cases when → holds (worst cube cases) when ≡ true → must_hold cube when ≡ true
worst_must cube cases one_way Always stands on = refl
worst_must cube cases one_way (IfTold place) stands on =
    elim (worst_reason cube cases place on) [ inl told ↦ told | inr why ↦ absurd (one_way place stands why.0) ]
worst_must cube cases one_way (IfLeft place) stands on = not-false _ not_open where
  not_open : not (set.contains cube.left place) ≡ false
  not_open = false_from_ne_true _ (λ open_. false≢true (sym (not-true _ on) ∙ worst_wanted cube cases place stands (not-true _ open_)))

-- The search for the missing atom that is printed first: what is known after some places of the list, and at its end.
use Rattle.std.proofs.Common.{◌≡◌, ℕ, ◌+◌, ◌<◌, ◌≤◌, Bool, true, false, cond, List, length, get_or, Option, Some, None, refl, sym, ap, subst, ◌∙◌, arith, ⊎_elim}
use Rattle.std.specs.Prelude.{IsTrue, All, Contains, slice_get}
use Rattle.std.specs.Ordering.{nat_cmp, is_lt, is_gt, ordering_reverse}
use Rattle.std.specs.declared.cmp.Ordering.{Ordering}
use Rattle.std.specs.declared.cmp.Ordering.TheVariants.{Less, Equal, Greater}
use Rattle.std.specs.Cmp.Lexicographic.{slice_cmp, nat_list_cmp_total}
use Rattle.std.proofs.lemmas.Bool.{true≢false, cases_Bool, cases_lt}
use Rattle.std.proofs.lemmas.Cmp.{upto, tied_itself}
use Rattle.std.proofs.lemmas.Map.Lookups.{exact_bytes}
use Rattle.std.proofs.lemmas.Option.{slice_get_within, get_or_from_slice_get, slice_get-get_or}
use Rattle.std.proofs.lemmas.List.Elements.{All-contains}
use Rattle.std.specs.BTreeSet.{BTreeSet}
use Rattle.model_kit.specs.declared.vocabulary.Vocabulary.{Vocabulary}
use Rattle.model_kit.specs.declared.atom.GroundAtom.{GroundAtom}
use Rattle.model_kit.specs.Vocabulary.{is_ground_atom}
use Rattle.model_kit.specs.Printed.{atom_form}
use Rattle.model_kit.specs.Judgement.{IsFirstPrinted}
use Rattle.model_kit.specs.Judging.{has, StateOf, IsMissing, earlier_of}
use Rattle.model_kit.proofs.FormLemmas.{atom_form-injective}

-- one text isn't after another
abbrev IsUpTo : List ℕ → List ℕ → Type 0
IsUpTo one two = is_gt (slice_cmp nat_cmp one two) ≡ false

up_to_if_less : (one two : List ℕ) → is_lt (slice_cmp nat_cmp one two) ≡ true → IsUpTo one two
up_to_if_less one two less = by (slice_cmp nat_cmp one two) less
  where
    by : (r : Ordering) → is_lt r ≡ true → is_gt r ≡ false
    by Less e = refl
    by Equal e = refl
    by Greater e = absurd (true≢false (sym e))

up_to_if_not_less : (one two : List ℕ) → is_lt (slice_cmp nat_cmp two one) ≡ false → IsUpTo one two
up_to_if_not_less one two not_less = by (slice_cmp nat_cmp one two) (slice_cmp nat_cmp two one) (nat_list_cmp_total.antisymm one two) not_less
  where
    by : (r s : Ordering) → r ≡ ordering_reverse s → is_lt s ≡ false → is_gt r ≡ false
    by r Less turned e = absurd (true≢false e)
    by r Equal turned e = ap is_gt turned
    by r Greater turned e = ap is_gt turned

up_to_itself : (one : List ℕ) → IsUpTo one one
up_to_itself one = ap is_gt (tied_itself nat_list_cmp_total one)

module _ (words : Vocabulary) (state : BTreeSet GroundAtom) (atoms : List GroundAtom) where
  -- the place and text of the missing atom that is printed first, among those before a place
  pub record IsLeast (place : ℕ) (best : ℕ × List ℕ) : Type 0 where
    pub atom : GroundAtom
    pub below : best.0 < place
    pub here : slice_get atoms best.0 ≡ Some atom
    pub missing : has state atom ≡ false
    pub printed : best.1 ≡ atom_form words atom
    pub least : (k : ℕ) (other : GroundAtom) → k < place → slice_get atoms k ≡ Some other → has state other ≡ false → IsUpTo best.1 (atom_form words other)

  -- what is known after the places before a place
  abbrev pub Known : ℕ → Option (ℕ × List ℕ) → Type 0
  Known place None = (k : ℕ) (other : GroundAtom) → k < place → slice_get atoms k ≡ Some other → has state other ≡ true
  Known place (Some best) = IsLeast place best

  pub nothing_yet : Known 0 None
  nothing_yet k other lt at = absurd (omega arith)

  module _ (place : ℕ) (atom : GroundAtom) (at : slice_get atoms place ≡ Some atom) where
    -- below the next place: below this one, or here
    each_more : (P : GroundAtom → Type 0) → ((k : ℕ) (other : GroundAtom) → k < place → slice_get atoms k ≡ Some other → P other) → P atom → (k : ℕ) (other : GroundAtom) → k < place + 1 → slice_get atoms k ≡ Some other → P other
    each_more P before here k other lt at_k =
        ⊎_elim (λ less. before k other less at_k)
        (λ ge. let k_is : k ≡ place = omega arith in
        let same : slice_get atoms k ≡ slice_get atoms place = ap (slice_get atoms) k_is in
        let is : atom ≡ other = cc in
        subst P is here)
        (cases_lt k place)

    pub still_known : has state atom ≡ true → (best : Option (ℕ × List ℕ)) → Known place best → Known (place + 1) best
    still_known there None known = each_more (λ other. has state other ≡ true) known there
    still_known there (Some best) known = record {
      atom = known.atom;
      below = omega (arith, known.below);
      here = known.here;
      missing = known.missing;
      printed = known.printed;
      least = each_more (λ other. has state other ≡ false → IsUpTo best.1 (atom_form words other)) known.least (λ gone. absurd (true≢false (sym there ∙ gone)));
    }

    module _ (gone : has state atom ≡ false) (text : List ℕ) (is : text ≡ atom_form words atom) where
      here_least : ((k : ℕ) (other : GroundAtom) → k < place → slice_get atoms k ≡ Some other → has state other ≡ false → IsUpTo text (atom_form words other)) → IsLeast (place + 1) (place, text)
      here_least before = record {
        atom = atom;
        below = omega arith;
        here = at;
        missing = gone;
        printed = is;
        least = each_more (λ other. has state other ≡ false → IsUpTo text (atom_form words other)) before (λ _. subst (IsUpTo text) is (up_to_itself text));
      }

      pub earlier_known : (best : Option (ℕ × List ℕ)) → Known place best → Known (place + 1) (earlier_of best place text)
      earlier_known None known = here_least (λ k other lt at_k away. absurd (true≢false (sym (known k other lt at_k) ∙ away)))
      earlier_known (Some best) known = by (is_lt (slice_cmp nat_cmp text best.1)) refl
        where
          by : (b : Bool) → is_lt (slice_cmp nat_cmp text best.1) ≡ b → Known (place + 1) (cond b (Some (place, text)) (Some best))
          by true less = here_least (λ k other lt at_k away. upto nat_list_cmp_total text best.1 (atom_form words other) (up_to_if_less text best.1 less) (known.least k other lt at_k away))
          by false not_less = record {
            atom = known.atom;
            below = omega (arith, known.below);
            here = known.here;
            missing = known.missing;
            printed = known.printed;
            least = each_more (λ other. has state other ≡ false → IsUpTo best.1 (atom_form words other)) known.least (λ _. subst (IsUpTo best.1) is (up_to_if_not_less best.1 text not_less));
          }

  -- at the end of the list: each atom is in the state
  pub all_there : Known (length atoms) None → All (StateOf state) atoms
  all_there known k d lt = known k (get_or atoms k d) lt (slice_get-get_or atoms k d lt)

  -- at the end of the list: the atom is the missing one that is printed first
  pub first_there : All (λ atom. IsTrue (is_ground_atom words atom)) atoms → (best : ℕ × List ℕ) → Known (length atoms) (Some best) → (found : GroundAtom) → slice_get atoms best.0 ≡ Some found → IsFirstPrinted words (IsMissing atoms state) found
  first_there fit best known found at = record {
    has = (listed found best.0 at, λ there. true≢false (sym there ∙ away));
    first = λ other missing differs.
        let k = missing.0.0 in
        let lt = missing.0.1 in
        let at_k : slice_get atoms k ≡ Some other = slice_get-get_or atoms k other lt ∙ ap Some missing.0.2 in
        let other_away : has state other ≡ false = gone other missing.1 in
        let le : IsUpTo (atom_form words found) (atom_form words other) = subst (λ text. IsUpTo text (atom_form words other)) printed (known.least k other lt at_k other_away) in
        strictly (slice_cmp nat_cmp (atom_form words found) (atom_form words other)) le
        (λ tie. differs (sym (atom_form-injective words found other (All-contains (λ atom. IsTrue (is_ground_atom words atom)) atoms found fit (listed found best.0 at))
        (All-contains (λ atom. IsTrue (is_ground_atom words atom)) atoms other fit missing.0) (exact_bytes (atom_form words found) (atom_form words other) tie))));
  }
    where
      same : known.atom ≡ found
      same = cc

      away : has state found ≡ false
      away = subst (λ atom. has state atom ≡ false) same known.missing

      printed : best.1 ≡ atom_form words found
      printed = known.printed ∙ ap (atom_form words) same

      listed : (atom : GroundAtom) (k : ℕ) → slice_get atoms k ≡ Some atom → Contains atoms atom
      listed atom k at_k = (k, slice_get_within atoms k atom at_k, get_or_from_slice_get atoms k atom atom at_k)

      gone : (atom : GroundAtom) → ¬ StateOf state atom → has state atom ≡ false
      gone atom not_there = ⊎_elim (λ there. absurd (not_there there)) (λ e. e) (cases_Bool (has state atom))

      strictly : (r : Ordering) → is_gt r ≡ false → ¬ (r ≡ Equal) → r ≡ Less
      strictly Less le apart = refl
      strictly Equal le apart = absurd (apart refl)
      strictly Greater le apart = absurd (true≢false le)

  -- what is known once the places are all passed
  pub at_end : (place : ℕ) (best answer : Option (ℕ × List ℕ)) → Known place best → length atoms ≤ place → place ≤ length atoms → best ≡ answer → Known (length atoms) answer
  at_end place best answer known ge le is =
      let all : place ≡ length atoms = omega arith in
      subst (Known (length atoms)) is (subst (λ n. Known n best) all known)

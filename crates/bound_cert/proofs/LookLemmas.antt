-- The search for a state among ascending states.
use Rattle.std.proofs.Common.{◌≡◌, ℕ, ◌+◌, ◌≤◌, ◌<◌, Bool, true, false, nat_eq, nat_lt, if◌then◌else◌, List, [], ◌∷◌, length, map, Some, refl, sym, ap, ◌∙◌, arith, subst, inl, inr, All, slice_get}
use Rattle.std.proofs.lemmas.Bool.{false≢true, true≢false, false_from_ne_true, cases_lt}
use Rattle.std.proofs.lemmas.Bool.Decides.{nat_tests}
use Rattle.std.proofs.lemmas.List.{length-map}
use Rattle.std.proofs.lemmas.Option.{slice_get_within, get_or_from_slice_get}
use Rattle.mre_base.specs.Before.{is_earlier_list}
use Rattle.mre_base.specs.Sets.{BitSet, numbers_below}
use Rattle.mre_base.proofs.ListOrder.{is_earlier_list-itself, earlier_trans}
use Rattle.task_kit.specs.Tasks.{Numbers}
use Rattle.task_kit.specs.Bounds.{IsKnownWithin}
use Rattle.task_kit.proofs.AtomLemmas.{same_bits}
use Rattle.mre_base.proofs.Listed.{item_at}
use Rattle.bound_cert.specs.declared.proof.BoundState.{BoundState}
use Rattle.bound_cert.specs.Formed.{is_listed_before, IsAscending}
use Rattle.bound_cert.specs.Proven.{numbered, IsThere}
use Rattle.mre_base.proofs.Loops.{All_item}
use Rattle.mre_base.proofs.Listed.{item_contained}
use Rattle.bound_cert.proofs.ListLemmas.{same_item, mapped_at}

-- ---- the order of lists
before-trans : (one two three : BitSet) → is_listed_before one two ≡ true → is_listed_before two three ≡ true → is_listed_before one three ≡ true
before-trans one two three = earlier_trans (numbers_below one.width one.members) (numbers_below two.width two.members) (numbers_below three.width three.members)

not_before_itself : (one two : BitSet) → one ≡ two → is_listed_before one two ≡ true → ⊥
not_before_itself one two e before =
    false≢true (sym (is_earlier_list-itself (numbers_below one.width one.members)) ∙ ap (is_listed_before one) e ∙ before)

-- ---- halving
-- if the state at a place is before the wanted one, so is each earlier state
pub before_up_to : (states : List BoundState) (wanted : BitSet) (middle : ℕ) (m : BoundState) → IsAscending states → slice_get states middle ≡ Some m → true ≡ is_listed_before m.state wanted
    → (place : ℕ) (s : BoundState) → slice_get states place ≡ Some s → place < middle + 1 → is_listed_before s.state wanted ≡ true
before_up_to states wanted middle m ascending at before place s there lt =
    elim (cases_lt place middle) [
      | inl lower ↦ before-trans s.state m.state wanted (ascending place middle s m there at lower) (sym before)
      | inr same ↦ subst (λ t. is_listed_before t.state wanted ≡ true) (same_item states middle place m s at there (omega arith)) (sym before)
    ]

-- if it isn't, no later state is
pub rest_from : (states : List BoundState) (wanted : BitSet) (middle : ℕ) (m : BoundState) → IsAscending states → slice_get states middle ≡ Some m → false ≡ is_listed_before m.state wanted
    → (place : ℕ) (s : BoundState) → slice_get states place ≡ Some s → middle ≤ place → is_listed_before s.state wanted ≡ false
rest_from states wanted middle m ascending at past place s there le =
    false_from_ne_true _ (λ before.
    elim (cases_lt middle place) [
      | inl higher ↦ false≢true (past ∙ before-trans m.state s.state wanted (ascending middle place m s at there higher) before)
      | inr same ↦ false≢true (past ∙ subst (λ t. is_listed_before t.state wanted ≡ true) (same_item states place middle s m there at (omega arith)) before)
    ])

-- ---- the only place at which the wanted state may be
module _ (states : List BoundState) (wanted : BitSet) (place : ℕ) (ascending : IsAscending states)
    (before : (p : ℕ) (s : BoundState) → slice_get states p ≡ Some s → p < place → is_listed_before s.state wanted ≡ true)
    (rest : (p : ℕ) (s : BoundState) → slice_get states p ≡ Some s → place ≤ p → is_listed_before s.state wanted ≡ false) where
  -- the wanted state is at that place or isn't listed
  pub only_there : (p : ℕ) (s : BoundState) → slice_get states p ≡ Some s → s.state ≡ wanted → place < length states × (p ≡ place)
  only_there p s there same =
      elim (cases_lt p place) [
        | inl lower ↦ absurd (not_before_itself s.state wanted same (before p s there lower))
        | inr from ↦ at_least from
      ]
    where
      at_least : place ≤ p → place < length states × (p ≡ place)
      at_least from =
          let inside : p < length states = slice_get_within states p s there in (
            omega arith,
            elim (cases_lt place p) [
              | inl higher ↦ absurd (beyond (item_at states place (omega arith)) higher)
              | inr le ↦ omega arith
            ],
          )
        where
          beyond : (t : BoundState) × (slice_get states place ≡ Some t) → place < p → ⊥
          beyond (t, at) higher =
              true≢false (sym (subst (λ w. is_listed_before t.state w ≡ true) same (ascending place p t s at there higher)) ∙ rest place t at (omega arith))

-- ---- listed states and their places
-- a state is at a place with at most a number
pub record StandsWithin (states : List BoundState) (state : Numbers) (number : ℕ) : Type 0 where
  pub place : ℕ
  pub s : BoundState
  pub here : slice_get states place ≡ Some s
  pub same : s.state.members ≡ state
  pub within : s.number ≤ number

pub stands : (states : List BoundState) (state : Numbers) (number : ℕ) → IsKnownWithin (IsThere states) state number → StandsWithin states state number
stands states state number (smaller, (n, (place, lt, at), same, counts), le) = found (item_at states place (omega (arith, length-map states numbered))) where
  found : (s : BoundState) × (slice_get states place ≡ Some s) → StandsWithin states state number
  found (s, here) =
      let is : numbered s ≡ n = sym (get_or_from_slice_get (map numbered states) place (numbered s) n (mapped_at numbered states place s here)) ∙ at in
      let e : s.number ≡ smaller = ap (λ m. m.number) is ∙ counts in
      record { place = place; s = s; here = here; same = ap (λ m. m.state) is ∙ same; within = omega arith }

pub known_at : (states : List BoundState) (place : ℕ) (s : BoundState) (state : Numbers) (number : ℕ) → slice_get states place ≡ Some s → s.state.members ≡ state → s.number ≤ number
    → IsKnownWithin (IsThere states) state number
known_at states place s state number here same le =
    (s.number, (numbered s, item_contained (map numbered states) place (numbered s) (mapped_at numbered states place s here), same, refl), le)

-- with number 0 or less is with 0
pub known_zero : (states : List BoundState) (state : Numbers) → IsKnownWithin (IsThere states) state 0 → IsThere states state 0
known_zero states state known = let none : known.0 ≡ 0 = omega (arith, known.2) in subst (IsThere states state) none known.1

-- states of the same width with the same members are equal
pub same_state : (states : List BoundState) (wanted : BitSet) (place : ℕ) (s : BoundState) → All (λ t. t.state.width ≡ wanted.width) states → slice_get states place ≡ Some s
    → s.state.members ≡ wanted.members → s.state ≡ wanted
same_state states wanted place s wide here same =
    same_bits s.state.width wanted.width s.state.members wanted.members (All_item states place s here (λ t. t.state.width ≡ wanted.width) wide) same

module _ (states : List BoundState) (wanted : BitSet) (place : ℕ) (ascending : IsAscending states)
    (before : (p : ℕ) (s : BoundState) → slice_get states p ≡ Some s → p < place → is_listed_before s.state wanted ≡ true)
    (rest : (p : ℕ) (s : BoundState) → slice_get states p ≡ Some s → place ≤ p → is_listed_before s.state wanted ≡ false)
    (wide : All (λ t. t.state.width ≡ wanted.width) states) (number : ℕ) where
  there : (st : StandsWithin states wanted.members number) → place < length states × (st.place ≡ place)
  there st = only_there states wanted place ascending before rest st.place st.s st.here (same_state states wanted st.place st.s wide st.here st.same)

  -- no state is at the place, so the wanted one isn't listed
  pub nowhere : length states ≤ place → IsKnownWithin (IsThere states) wanted.members number → ⊥
  nowhere past known = let inside : place < length states = (there (stands states wanted.members number known)).0 in absurd (omega arith)

  module _ (found : BoundState) (here : slice_get states place ≡ Some found) where
    is_found : (st : StandsWithin states wanted.members number) → st.s ≡ found
    is_found st = same_item states st.place place st.s found st.here here (there st).1

    -- the wanted state is the one at the place
    pub found_same : IsKnownWithin (IsThere states) wanted.members number → found.state ≡ wanted
    found_same known =
        let st : StandsWithin states wanted.members number = stands states wanted.members number known in
        ap (λ s. s.state) (sym (is_found st)) ∙ same_state states wanted st.place st.s wide st.here st.same

    pub within_found : IsKnownWithin (IsThere states) wanted.members number → found.number ≤ number
    within_found known =
        let st : StandsWithin states wanted.members number = stands states wanted.members number known in
        subst (λ s. s.number ≤ number) (is_found st) st.within

-- The sets of types above an object's, the types that parameters have, and the objects of each.
use Rattle.std.proofs.Common.{◌≡◌, ℕ, zero, suc, ◌||◌, ◌+◌, ◌-◌, ◌<◌, ◌≤◌, ◌∙◌, ◌⊎◌, Bool, true, false, cond, Option, Some, List, [], ◌∷◌, ◌++◌, length, filter, refl, sym, ap, subst, inl, inr, get_or, arith}
use Rattle.std.specs.Prelude.{◌↔◌, slice_get, Contains, nat_eq, All, IsTrue}
use Rattle.std.specs.List.{range_with_len}
use Rattle.std.specs.Option.{option_map_or}
use Rattle.std.specs.Ordering.{nat_cmp}
use Rattle.std.specs.FinSet as set
use Rattle.std.proofs.lemmas.Bool.{or_cases, or_left, or_right, true≢false, cases_order, eqb-true, eq-eqb}
use Rattle.std.proofs.lemmas.Option.{slice_get_within, slice_get-get_or}
use Rattle.std.proofs.lemmas.List.{length_push}
use Rattle.mre_base.specs.Sets.{BitSet}
use Rattle.mre_base.proofs.SetsBelow.{contains-insert_nat}
use Rattle.model_kit.specs.declared.vocabulary.Vocabulary.{Vocabulary}
use Rattle.model_kit.specs.declared.vocabulary.Signature.{Signature}
use Rattle.model_kit.specs.Types.{parent, ancestor, is_of_type}
use Rattle.model_kit.specs.Vocabulary.{is_object_of}
use Rattle.model_kit.specs.Words.{is_signature}
use Rattle.mre_base.proofs.Loops.{All_item}
use Rattle.model_kit.proofs.Fits.{object_listed}
use Rattle.model_kit.proofs.ListLemmas.{range_contains}
use Rattle.model_kit.proofs.WordFacts.{TypeFacts, facts_of_words, type_listed, signature_types}
use Rattle.model_kit.proofs.TypeLemmas.{past_the_top, steps_up, from_steps_up, entry_passes, entry_from}
use Rattle.task_kit.proofs.PlaceLemmas.{push_cases}
use Rattle.joint_models.proofs.Mapped.{range_more}
use Rattle.pair_rules.proofs.PartLemmas.{filter_has, filter_keeps}
use Rattle.pair_rules.specs.Fitting.{IsUsed, AreAbove, AreTypesOf, AreObjectsOf, AreUsed, AreFitting, has_type}
use Rattle.mre_base.proofs.Tests.{same_test}
use Rattle.mre_base.proofs.Options.{one_item}

-- ---- one more number in a set
module _ (old new : BitSet) (number : ℕ) (put : new ≡ record old { members = set.insert old.members number }) where
  now_is : (i : ℕ) → set.contains new.members i ≡ (nat_eq i number || set.contains old.members i)
  now_is i = ap (λ bits. set.contains bits.members i) put ∙ contains-insert_nat old.members number i

  pub put_width : new.width ≡ old.width
  put_width = ap (λ bits. bits.width) put

  pub put_there : set.contains new.members number ≡ true
  put_there = now_is number ∙ or_left (nat_eq number number) (set.contains old.members number) (eq-eqb number number refl)

  pub put_grows : (i : ℕ) → set.contains old.members i ≡ true → set.contains new.members i ≡ true
  put_grows i has = now_is i ∙ or_right (nat_eq i number) (set.contains old.members i) has

  pub put_only : (i : ℕ) → set.contains new.members i ≡ true → (i ≡ number) ⊎ (set.contains old.members i ≡ true)
  put_only i has = elim (or_cases (nat_eq i number) (set.contains old.members i) (sym (now_is i) ∙ has)) [
    | inl same ↦ inl (eqb-true i number same)
    | inr before ↦ inr before
  ]

-- ---- the types above one
module _ (types : List (List ℕ × ℕ)) (kind : ℕ) where
  pub above_none : (bits : BitSet) → bits ≡ record { width = length types; members = set.empty } → AreAbove types kind 0 bits
  above_none bits is = record {
    width = ap (λ b. b.width) is;
    there = λ k lt. absurd (omega (arith, lt));
    only = λ above has. absurd (true≢false (sym has ∙ ap (λ b. set.contains b.members above) is ∙ set.contains-empty nat_cmp above));
  }

  pub above_more : (steps current : ℕ) (old new : BitSet) → AreAbove types kind steps old → current ≡ ancestor types steps kind → new ≡ record old { members = set.insert old.members current } → AreAbove types kind (steps + 1) new
  above_more steps current old new before is put = record {
    width = put_width old new current put ∙ before.width;
    there = λ k lt. by k (cases k lt);
    only = λ above has. elim (put_only old new current put above has) [
      | inl same ↦ (steps, omega arith, sym (same ∙ is))
      | inr earlier ↦ let found = before.only above earlier in (found.0, (let low = found.1 in omega (arith, low)), found.2)
    ];
  }
    where
      cases : (k : ℕ) → k < steps + 1 → (k < steps) ⊎ (k ≡ steps)
      cases k lt = elim (cases_order k steps) [
        | inl same ↦ inr same
        | inr other ↦ elim other [
          | inl below ↦ inl below
          | inr past ↦ absurd (omega (arith, lt, past))
        ]
      ]

      by : (k : ℕ) → (k < steps) ⊎ (k ≡ steps) → set.contains new.members (ancestor types k kind) ≡ true
      by k (inl low) = put_grows old new current put (ancestor types k kind) (before.there k low)
      by k (inr same) = subst (λ i. set.contains new.members i ≡ true) (is ∙ ap (λ i. ancestor types i kind) (sym same)) (put_there old new current put)

  module _ (facts : TypeFacts types) where
    -- a set that goes as far up as there are types, or up to the first type, has all types above
    pub above_all : (steps : ℕ) (bits : BitSet) → AreAbove types kind steps bits → steps ≤ length types + 1 → (length types + 1 ≤ steps) ⊎ ((last : ℕ) × (steps ≡ last + 1) × (ancestor types last kind ≡ 0))
        → (above : ℕ) → set.contains bits.members above ≡ is_of_type types kind above
    above_all steps bits set_is most ends above =
        same_test (set.contains bits.members above) (is_of_type types kind above)
        (λ has. let found = set_is.only above has in from_steps_up types kind above found.0 (let low = found.1 in omega (arith, low, most)) found.2)
        (λ is. let (n, few, at) = steps_up types kind above is in subst (λ i. set.contains bits.members i ≡ true) at (reached n few (cases_order n steps) ends))
      where
        reached : (n : ℕ) → n ≤ length types → (n ≡ steps) ⊎ ((n < steps) ⊎ (steps < n)) → (length types + 1 ≤ steps) ⊎ ((last : ℕ) × (steps ≡ last + 1) × (ancestor types last kind ≡ 0)) → set.contains bits.members (ancestor types n kind) ≡ true
        reached n few (inr (inl low)) ended = set_is.there n low
        reached n few (inl same) (inl whole) = absurd (omega (arith, few, same, whole))
        reached n few (inr (inr past)) (inl whole) = absurd (omega (arith, few, past, whole))
        reached n few (inl same) (inr (last, next, zero_there)) =
            subst (λ i. set.contains bits.members i ≡ true) (zero_there ∙ sym (past_the_top types facts kind last n (omega (arith, same, next)) zero_there)) (set_is.there last (omega (arith, next)))
        reached n few (inr (inr past)) (inr (last, next, zero_there)) =
            subst (λ i. set.contains bits.members i ≡ true) (zero_there ∙ sym (past_the_top types facts kind last n (omega (arith, past, next)) zero_there)) (set_is.there last (omega (arith, next)))

-- ---- what is known of a vocabulary
module _ (words : Vocabulary) where
  pub type_below : (object kind : ℕ) (name : List ℕ) → slice_get words.objects object ≡ Some (name, kind) → kind < length words.types
  type_below object kind name at = All_item words.objects object (name, kind) at (λ entry. entry.1 < length words.types) (type_listed words.types words.objects (facts_of_words words).objects_kept)

  pub parent_below : (kind above : ℕ) (name : List ℕ) → slice_get words.types kind ≡ Some (name, above) → above < length words.types
  parent_below kind above name at = All_item words.types kind (name, above) at (λ entry. entry.1 < length words.types) (type_listed words.types words.types (facts_of_words words).types_kept.kept)

  pub params_below : (number : ℕ) (action : Signature) → slice_get words.actions number ≡ Some action → All (λ kind. kind < length words.types) action.params
  params_below number action at = signature_types words.types action (All_item words.actions number action at (λ s. IsTrue (is_signature words.types s)) (facts_of_words words).actions_kept.fit)

  -- the parents of a type that is there
  pub next_above : (kind current next steps : ℕ) (name : List ℕ) → current ≡ ancestor words.types steps kind → slice_get words.types current ≡ Some (name, next) → next ≡ ancestor words.types (steps + 1) kind
  next_above kind current next steps name is at =
      let one : suc steps ≡ steps + 1 = omega arith in
      sym (ap (λ o. option_map_or (λ entry. entry.1) o 0) at) ∙ ap (parent words.types) is ∙ ap (λ n. ancestor words.types n kind) one

  pub types_are : (object kind : ℕ) (name : List ℕ) → slice_get words.objects object ≡ Some (name, kind) → (bits : BitSet) → bits.width ≡ length words.types
      → ((above : ℕ) → set.contains bits.members above ≡ is_of_type words.types kind above) → AreTypesOf words object bits
  types_are object kind name at bits width each = record {
    width = width;
    each = λ above. each above ∙ sym (ap (λ o. option_map_or (λ entry. is_of_type words.types entry.1 above) o false) at);
  }

  -- ---- one more object, one more action, one more type
  pub objects_more : (count : ℕ) (old new : List BitSet) (bits : BitSet) → AreObjectsOf words count old → AreTypesOf words count bits → new ≡ old ++ bits ∷ [] → AreObjectsOf words (count + 1) new
  objects_more count old new bits before is now = record {
    counted = ap length now ∙ length_push old bits ∙ ap (λ n. n + 1) before.counted;
    each = λ object other at. elim (push_cases old bits object other (sym (ap (λ list. slice_get list object) now) ∙ at)) [
      | inl earlier ↦ before.each object other earlier
      | inr (last, same) ↦ subst (λ n. AreTypesOf words n other) (sym (last ∙ before.counted)) (subst (AreTypesOf words count) (sym same) is)
    ];
  }

  pub used_more : (count : ℕ) (old new : BitSet) (action : Signature) → AreUsed words count old → slice_get words.actions count ≡ Some action → new.width ≡ old.width
      → ((kind : ℕ) → set.contains old.members kind ≡ true → set.contains new.members kind ≡ true) → ((kind : ℕ) → Contains action.params kind → set.contains new.members kind ≡ true) → AreUsed words (count + 1) new
  used_more count old new action before at width grows there = record {
    width = width ∙ before.width;
    each = λ number other kind lt other_at among. elim (cases_order number count) [
      | inl same ↦
          let one : other ≡ action = cc_same number other same other_at in
          there kind (subst (λ a. Contains a.params kind) one among)
      | inr apart ↦ elim apart [
        | inl below ↦ grows kind (before.each number other kind below other_at among)
        | inr past ↦ absurd (omega (arith, lt, past))
      ]
    ];
  }
    where
      cc_same : (number : ℕ) (other : Signature) → number ≡ count → slice_get words.actions number ≡ Some other → other ≡ action
      cc_same number other same other_at = one_item (slice_get words.actions number) other action other_at (ap (slice_get words.actions) same ∙ at)

  pub fitting_more : (count : ℕ) (old new : List (List ℕ)) (objects : List ℕ) → AreFitting words count old → (IsUsed words count → (object : ℕ) → Contains objects object ↔ (is_object_of words object count ≡ true))
      → new ≡ old ++ objects ∷ [] → AreFitting words (count + 1) new
  fitting_more count old new objects before is now = record {
    counted = ap length now ∙ length_push old objects ∙ ap (λ n. n + 1) before.counted;
    each = λ kind list at used object. elim (push_cases old objects kind list (sym (ap (λ lists. slice_get lists kind) now) ∙ at)) [
      | inl earlier ↦ before.each kind list earlier used object
      | inr (last, same) ↦
          let here = last ∙ before.counted in
          let fits = is (subst (IsUsed words) here used) object in (
            λ among. subst (λ k. is_object_of words object k ≡ true) (sym here) (fits.0 (subst (λ l. Contains l object) same among)),
            λ fit. subst (λ l. Contains l object) (sym same) (fits.1 (subst (λ k. is_object_of words object k ≡ true) here fit)),
          )
    ];
  }

  -- a type that is in no parameter's set isn't the type of one
  pub unused : (bits : BitSet) → AreUsed words (length words.actions) bits → (kind : ℕ) → set.contains bits.members kind ≡ false → IsUsed words kind → ⊥
  unused bits are kind lacks (number, action, at, among) = true≢false (sym (are.each number action kind (slice_get_within words.actions number action at) at among) ∙ lacks)

  -- the objects in whose sets a type is are those of the type
  pub objects_are : (sets : List BitSet) (count kind : ℕ) → AreObjectsOf words count sets → count ≡ length words.objects
      → (object : ℕ) → Contains (filter (has_type sets kind) (range_with_len 0 count)) object ↔ (is_object_of words object kind ≡ true)
  objects_are sets count kind are whole object = (
    λ among.
        let (low, has) = filter_has (has_type sets kind) (range_with_len 0 count) object among in
        has_is object has,
    λ fit.
        let lt : object < count = subst (λ n. object < n) (sym whole) (object_listed words object kind fit) in
        filter_keeps (has_type sets kind) (range_with_len 0 count) object (range_contains count object lt) (in_set object lt fit),
  )
    where
      has_is : (o : ℕ) → has_type sets kind o ≡ true → is_object_of words o kind ≡ true
      has_is o has = let (bits, at, there) = entry_passes (λ b. set.contains b.members kind) sets o has in sym ((are.each o bits at).each kind) ∙ there

      in_set : (o : ℕ) → o < count → is_object_of words o kind ≡ true → has_type sets kind o ≡ true
      in_set o lt fit =
          let bits = get_or sets o (record { width = 0; members = set.empty }) in
          let at : slice_get sets o ≡ Some bits = slice_get-get_or sets o (record { width = 0; members = set.empty }) (omega (arith, lt, are.counted)) in
          entry_from (λ b. set.contains b.members kind) sets o bits at ((are.each o bits at).each kind ∙ fit)

-- one more object, whose set has a type or doesn't
pub object_more : (sets : List BitSet) (kind n : ℕ) (bits : BitSet) → slice_get sets n ≡ Some bits → (has : Bool) → set.contains bits.members kind ≡ has → (made : List ℕ)
    → made ≡ filter (has_type sets kind) (range_with_len 0 n) → made ++ cond has (n ∷ []) [] ≡ filter (has_type sets kind) (range_with_len 0 (n + 1))
object_more sets kind n bits at has is made before =
    (λ i. before i ++ cond (sym passes i) (n ∷ []) []) ∙ sym (range_more (has_type sets kind) n)
  where
    passes : has_type sets kind n ≡ has
    passes = ap (λ o. option_map_or (λ b. set.contains b.members kind) o false) at ∙ is

-- one more parameter's type in the set
pub kind_there : (kinds : List ℕ) (place item : ℕ) (old new : BitSet) → slice_get kinds place ≡ Some item → new ≡ record old { members = set.insert old.members item }
    → ((i kind : ℕ) → i < place → slice_get kinds i ≡ Some kind → set.contains old.members kind ≡ true) → (i kind : ℕ) → i < place + 1 → slice_get kinds i ≡ Some kind → set.contains new.members kind ≡ true
kind_there kinds place item old new at put before i kind lt here = elim (cases_order i place) [
  | inl same ↦ subst (λ k. set.contains new.members k ≡ true) (one_item (slice_get kinds i) item kind (ap (slice_get kinds) same ∙ at) here) (put_there old new item put)
  | inr apart ↦ elim apart [
    | inl below ↦ put_grows old new item put kind (before i kind below here)
    | inr past ↦ absurd (omega (arith, lt, past))
  ]
]

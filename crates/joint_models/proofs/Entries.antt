-- How entries are found by their names.
use Rattle.std.proofs.Common.{◌≡◌, ℕ, ◌+◌, ◌-◌, ◌<◌, ◌≤◌, ◌||◌, ◌++◌, zero, suc, true, false, cond, List, [], ◌∷◌, length, take, drop, Option, Some, None, refl, sym, ap, ◌∙◌, arith, ⊎_elim, inl, inr}
use Rattle.std.specs.Prelude.{◌≢◌, ◌⊎◌, not, nat_lt, AllPairs, slice_get, String}
use Rattle.std.specs.Option.{unwrap_or}
use Rattle.std.specs.String.{string_bytes, string_cmp}
use Rattle.std.specs.BTreeMap.{BTreeMap, get_by_text, Updates}
use Rattle.std.specs.Str.{bytes_eq}
use Rattle.std.proofs.lemmas.Bool.{true≢false, cases_Bool, false_from_ne_true, true_from_ne_false, or_parts, lt-ltb, le-ltb, cases_lt}
use Rattle.std.proofs.lemmas.Option.{slice_get_within, get_or_from_slice_get}
use Rattle.std.proofs.lemmas.List.{drop_all}
use Rattle.std.proofs.lemmas.Map.Text.{btree_map_updates_text}
use Rattle.model_kit.specs.declared.vocabulary.Signature.{Signature}
use Rattle.model_kit.specs.Same.{same_numbers}
use Rattle.model_kit.specs.Pairs.{names, number_of, is_named}
use Rattle.model_kit.proofs.Alike.{same_numbers-decides}
use Rattle.mre_base.proofs.Loops.{drop_item}
use Rattle.joint_models.specs.Listed.{entry_named, ArePlaces}

-- ---- one entry more in front

module _ (s : Signature) (ss : List Signature) (name : List ℕ) where
  pub number_first : same_numbers name s.name ≡ true → number_of (names (s ∷ ss)) name ≡ 0
  number_first hit = ap (λ b. cond (not b) (1 + number_of (names ss) name) 0) hit

  pub number_later : same_numbers name s.name ≡ false → number_of (names (s ∷ ss)) name ≡ suc (number_of (names ss) name)
  number_later miss = ap (λ b. cond (not b) (1 + number_of (names ss) name) 0) miss ∙ omega arith

  pub entry_first : same_numbers name s.name ≡ true → entry_named (s ∷ ss) name ≡ Some s
  entry_first hit = ap (slice_get (s ∷ ss)) (number_first hit)

  pub entry_later : same_numbers name s.name ≡ false → entry_named (s ∷ ss) name ≡ entry_named ss name
  entry_later miss = ap (slice_get (s ∷ ss)) (number_later miss)

pub other_name : (s : Signature) (name : List ℕ) → s.name ≢ name → same_numbers name s.name ≡ false
other_name s name other = false_from_ne_true (same_numbers name s.name) (λ e. other (sym ((same_numbers-decides name s.name).0 e)))

pub same_name : (s : Signature) (name : List ℕ) → s.name ≡ name → same_numbers name s.name ≡ true
same_name s name is = (same_numbers-decides name s.name).1 (sym is)

-- ---- numbers

pub number_most : (ss : List Signature) (name : List ℕ) → number_of (names ss) name ≤ length ss
number_most [] name = omega arith
number_most (s ∷ ss) name =
    let most = number_most ss name in
    ⊎_elim
    (λ hit. omega (arith, number_first s ss name hit))
    (λ miss. omega (arith, number_later s ss name miss))
    (cases_Bool (same_numbers name s.name))

-- the entry with a name has the name
pub entry_has_name : (ss : List Signature) (name : List ℕ) (s : Signature) → entry_named ss name ≡ Some s → s.name ≡ name
entry_has_name [] name s at = absurd (cc)
entry_has_name (x ∷ ss) name s at =
    ⊎_elim
    (λ hit. let here : Some x ≡ Some s = sym (entry_first x ss name hit) ∙ at in
    let is : x ≡ s = cc in
    ap (λ e. e.name) (sym is) ∙ sym ((same_numbers-decides name x.name).0 hit))
    (λ miss. entry_has_name ss name s (sym (entry_later x ss name miss) ∙ at))
    (cases_Bool (same_numbers name x.name))

-- an entry with a name, or none has the name
pub entry_cases : (ss : List Signature) (name : List ℕ)
    → ((s : Signature) × (entry_named ss name ≡ Some s)) ⊎ ((entry_named ss name ≡ None) × ((n : ℕ) (s : Signature) → slice_get ss n ≡ Some s → s.name ≢ name))
entry_cases [] name = inr (refl, λ n s at. absurd (cc))
entry_cases (x ∷ ss) name =
    ⊎_elim
    (λ hit. inl (x, entry_first x ss name hit))
    (λ miss. ⊎_elim
    (λ there. inl (there.0, entry_later x ss name miss ∙ there.1))
    (λ none. inr (entry_later x ss name miss ∙ none.0, apart none.1 miss))
    (entry_cases ss name))
    (cases_Bool (same_numbers name x.name))
  where
    apart : ((n : ℕ) (s : Signature) → slice_get ss n ≡ Some s → s.name ≢ name) → same_numbers name x.name ≡ false → (n : ℕ) (s : Signature) → slice_get (x ∷ ss) n ≡ Some s → s.name ≢ name
    apart others miss zero s at is =
        let first : x ≡ s = cc in
        true≢false (sym (same_name x name (ap (λ e. e.name) first ∙ is)) ∙ miss)
    apart others miss (suc n) s at is = others n s at is

below_both : (m n : ℕ) → nat_lt (suc m) (suc n) ≡ nat_lt m n
below_both m n =
    ⊎_elim
    (λ less. lt-ltb (suc m) (suc n) (omega arith) ∙ sym (lt-ltb m n less))
    (λ more. le-ltb (suc m) (suc n) (omega arith) ∙ sym (le-ltb m n more))
    (cases_lt m n)

-- whether an entry has a name
pub named_within : (ss : List Signature) (name : List ℕ) → nat_lt (number_of (names ss) name) (length ss) ≡ is_named ss name
named_within [] name = refl
named_within (s ∷ ss) name =
    ⊎_elim
    (λ hit. ap (λ n. nat_lt n (length (s ∷ ss))) (number_first s ss name hit) ∙ lt-ltb 0 (suc (length ss)) (omega arith) ∙ sym (ap (λ b. b || is_named ss name) hit))
    (λ miss. ap (λ n. nat_lt n (length (s ∷ ss))) (number_later s ss name miss) ∙ below_both (number_of (names ss) name) (length ss) ∙ named_within ss name ∙ sym (ap (λ b. b || is_named ss name) miss))
    (cases_Bool (same_numbers name s.name))

-- names that differ
abbrev pub NamesDiffer : List Signature → Type 0
NamesDiffer ss = AllPairs (λ s t. s.name ≢ t.name) ss

-- where names differ, an entry is the one with its name
pub number_is : (ss : List Signature) → NamesDiffer ss → (n : ℕ) (s : Signature) → slice_get ss n ≡ Some s → number_of (names ss) s.name ≡ n
number_is [] apart n s at = absurd (cc)
number_is (x ∷ ss) apart zero s at =
    let first : x ≡ s = cc in
    number_first x ss s.name (same_name x s.name (ap (λ e. e.name) first))
number_is (x ∷ ss) apart (suc n) s at =
    number_later x ss s.name (other_name x s.name differ)
    ∙ ap suc (number_is ss (λ i j d less within. apart (suc i) (suc j) d (omega arith) (omega arith)) n s at)
  where
    within : n < length ss
    within = slice_get_within ss n s at

    differ : x.name ≢ s.name
    differ is = apart zero (suc n) s (omega arith) (omega (arith, within)) (is ∙ ap (λ e. e.name) (sym (get_or_from_slice_get ss n s s at)))

pub entry_is : (ss : List Signature) → NamesDiffer ss → (n : ℕ) (s : Signature) → slice_get ss n ≡ Some s → entry_named ss s.name ≡ Some s
entry_is ss apart n s at = ap (slice_get ss) (number_is ss apart n s at) ∙ at

-- ---- the map of the places

-- the place of the first entry with a name, where the entries are counted from k on
abbrev pub place_from : ℕ → List Signature → List ℕ → Option ℕ
place_from k [] name = None
place_from k (s ∷ ss) name = cond (same_numbers s.name name) (Some k) (place_from (k + 1) ss name)

same_turned : (xs ys : List ℕ) → same_numbers xs ys ≡ same_numbers ys xs
same_turned xs ys =
    ⊎_elim
    (λ yes. yes ∙ sym ((same_numbers-decides ys xs).1 (sym ((same_numbers-decides xs ys).0 yes))))
    (λ no. no ∙ sym (false_from_ne_true (same_numbers ys xs) (λ e. true≢false (sym ((same_numbers-decides xs ys).1 (sym ((same_numbers-decides ys xs).0 e))) ∙ no))))
    (cases_Bool (same_numbers xs ys))

pub place_is_number : (k : ℕ) (ss : List Signature) (name : List ℕ) → unwrap_or (place_from k ss name) (k + length ss) ≡ k + number_of (names ss) name
place_is_number k [] name = refl
place_is_number k (s ∷ ss) name =
    ⊎_elim
    (λ hit. ap (λ b. unwrap_or (cond b (Some k) (place_from (k + 1) ss name)) (k + suc (length ss))) (same_turned s.name name ∙ hit)
    ∙ (let here : k ≡ k + 0 = omega arith in here) ∙ sym (ap (λ n. k + n) (number_first s ss name hit)))
    (λ miss. ap (λ b. unwrap_or (cond b (Some k) (place_from (k + 1) ss name)) (k + suc (length ss))) (same_turned s.name name ∙ miss)
    ∙ ap (unwrap_or (place_from (k + 1) ss name)) (let grows : k + suc (length ss) ≡ k + 1 + length ss = omega arith in grows)
    ∙ place_is_number (k + 1) ss name
    ∙ (let turns : k + 1 + number_of (names ss) name ≡ k + suc (number_of (names ss) name) = omega arith in turns)
    ∙ sym (ap (λ n. k + n) (number_later s ss name miss)))
    (cases_Bool (same_numbers name s.name))

-- the map after the entry before a place is put in
pub place_more : {A : Type 0} (ss : List Signature) (i : ℕ) (s : Signature) → 0 < i → slice_get ss (i - 1) ≡ Some s → (key : String A) → string_bytes key ≡ s.name
    → (old new : BTreeMap (String A) ℕ) → ((name : List ℕ) → get_by_text old name ≡ place_from i (drop i ss) name)
    → Updates string_cmp old new key (Some (i - 1)) → (name : List ℕ) → get_by_text new name ≡ place_from (i - 1) (drop (i - 1) ss) name
place_more ss i s positive at key key_is old new before updates name =
    btree_map_updates_text (string_bytes key) old new (Some (i - 1)) updates name
    ∙ (λ j. cond (bytes_eq (key_is j) name) (Some (i - 1)) (before name j))
    ∙ ap (λ k. cond (same_numbers s.name name) (Some (i - 1)) (place_from k (drop i ss) name)) (sym back)
    ∙ ap (λ rest. place_from (i - 1) rest name) (sym split)
  where
    back : i - 1 + 1 ≡ i
    back = omega arith

    split : drop (i - 1) ss ≡ s ∷ drop i ss
    split = drop_item ss (i - 1) s at ∙ ap (λ j. s ∷ drop j ss) back

pub places_done : {A : Type 0} (ss : List Signature) (i : ℕ) (places : BTreeMap (String A) ℕ) → i ≡ 0 → ((name : List ℕ) → get_by_text places name ≡ place_from i (drop i ss) name) → ArePlaces ss places
places_done ss i places start before name =
    ap (λ o. unwrap_or o (length ss)) (before name ∙ ap (λ k. place_from k (drop k ss) name) start) ∙ at_start
  where
    at_start : unwrap_or (place_from 0 ss name) (length ss) ≡ number_of (names ss) name
    at_start =
        let zero_more : 0 + length ss ≡ length ss = omega arith in
        let zero_number : 0 + number_of (names ss) name ≡ number_of (names ss) name = omega arith in
        ap (unwrap_or (place_from 0 ss name)) (sym zero_more) ∙ place_is_number 0 ss name ∙ zero_number

pub none_past : (i : ℕ) (ss : List Signature) (name : List ℕ) → i ≡ length ss → place_from i (drop i ss) name ≡ None
none_past i ss name end = ap (λ rest. place_from i rest name) (drop_all i ss (omega arith))

-- ---- whether a name is there

pub not_named : (ss : List Signature) (name : List ℕ) → is_named ss name ≡ false → (n : ℕ) (s : Signature) → slice_get ss n ≡ Some s → s.name ≢ name
not_named [] name e n s at is = absurd (cc)
not_named (x ∷ ss) name e zero s at is =
    let first : x ≡ s = cc in
    true≢false (sym (same_name x name (ap (λ t. t.name) first ∙ is)) ∙ (or_parts (same_numbers name x.name) (is_named ss name) e).0)
not_named (x ∷ ss) name e (suc n) s at is = not_named ss name (or_parts (same_numbers name x.name) (is_named ss name) e).1 n s at is

pub is_named_at : (ss : List Signature) (n : ℕ) (s : Signature) → slice_get ss n ≡ Some s → is_named ss s.name ≡ true
is_named_at ss n s at = true_from_ne_false (is_named ss s.name) (λ no. not_named ss s.name no n s at refl)

pub entry_if_named : (ss : List Signature) (name : List ℕ) → is_named ss name ≡ true → (s : Signature) × (entry_named ss name ≡ Some s)
entry_if_named [] name e = absurd (true≢false (sym e))
entry_if_named (x ∷ ss) name e =
    ⊎_elim
    (λ hit. (x, entry_first x ss name hit))
    (λ miss. let later = entry_if_named ss name (sym (ap (λ b. b || is_named ss name) miss) ∙ e) in (later.0, entry_later x ss name miss ∙ later.1))
    (cases_Bool (same_numbers name x.name))

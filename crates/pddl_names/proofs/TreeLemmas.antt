-- The numbers of types climb as their names do.
use Rattle.std.proofs.Common.{◌≡◌, ℕ, ◌+◌, ◌<◌, ◌≤◌, ◌&&◌, ◌||◌, zero, suc, Bool, true, false, cond, Some, None, Option, List, [], ◌∷◌, ◌++◌, length, map, refl, sym, ap, subst, ◌∙◌, arith, append_assoc, length-append, inl, inr, ⊎_elim}
use Rattle.std.specs.Prelude.{◌==◌, ◌⊎◌, not, codes, slice_get, slice_index, is_some, unwrap_or, if◌then◌else◌}
use Rattle.std.specs.List.{list_any, position_from, range_with_len}
use Rattle.std.specs.Option.{option_map, option_or}
use Rattle.std.specs.Str.{bytes_eq}
use Rattle.std.specs.Bool.{Decides}
use Rattle.std.proofs.lemmas.List.{length-map, map-append}
use Rattle.std.proofs.lemmas.List.Folds.{list_any_at, list_any-append}
use Rattle.std.proofs.lemmas.Bool.{true≢false, or_cases, or_left, or_right, eqb-true, eq-eqb, false_from_ne_true}
use Rattle.mre_base.specs.declared.text.Text.{Text}
use Rattle.mre_base.proofs.Options.{same_some}
use Rattle.mre_base.proofs.Tests.{same_test}
use Rattle.mre_base.proofs.Listed.{item_at}
use Rattle.std.proofs.Math.Bool.{or_assoc}
use Rattle.model_kit.proofs.Alike.{same_numbers-decides}
use Rattle.pddl_names.specs.Firsts.{typed_name}
use Rattle.pddl_names.specs.Listings.{Typed, first_of, parent_of, ancestor, is_type, is_below, comes_back}
use Rattle.pddl_names.specs.Numbers.{number_of}
use Rattle.pddl_names.specs.Forests.{AreUps, climb, Reaches}
use Rattle.pddl_names.specs.TypeTrees.{parent_entry, with_parents, parent_number}
use Rattle.pddl_names.proofs.FirstsLemmas.{first_some}
use Rattle.pddl_names.proofs.NumberLemmas.{number_is, number_below, named_entry}
use Rattle.model_kit.proofs.StateLemmas.{list_any-map}
use Rattle.model_kit.proofs.TypeLemmas.{any_below, some_below}
use Rattle.pddl_names.proofs.FewLemmas.{reach_few}

-- a number is another, or one of the few above it
abbrev pub climbs_to : List ℕ → ℕ → ℕ → ℕ → Bool
climbs_to ups bound from to = list_any (λ n. climb ups n from == to) (range_with_len 0 bound)

-- a place is found exactly where an item passes
found_by : {X : Type 0} (t : X → Bool) (i : ℕ) (xs : List X) (b : Bool) → is_some (position_from t (i + 1) xs) ≡ list_any t xs → is_some (cond b (Some i) (position_from t (i + 1) xs)) ≡ (b || list_any t xs)
found_by t i xs true e = refl
found_by t i xs false e = e

pub found_any : {X : Type 0} (t : X → Bool) (i : ℕ) (xs : List X) → is_some (position_from t i xs) ≡ list_any t xs
found_any t i [] = refl
found_any t i (x ∷ xs) = found_by t i xs (t x) (found_any t (i + 1) xs)

any_either : {X : Type 0} (t u : X → Bool) (xs : List X) → (list_any t xs || list_any u xs) ≡ list_any (λ x. t x || u x) xs
any_either t u [] = refl
any_either t u (x ∷ xs) = swap (t x) (u x) (list_any t xs) (list_any u xs) ∙ ap (λ b. (t x || u x) || b) (any_either t u xs)
  where
    swap : (a b c d : Bool) → ((a || c) || (b || d)) ≡ ((a || b) || (c || d))
    swap true b c d = refl
    swap false true true d = refl
    swap false true false d = refl
    swap false false c d = refl

or_swap : (a b : Bool) → (a || (b || false)) ≡ (b || a)
or_swap true true = refl
or_swap true false = refl
or_swap false true = refl
or_swap false false = refl

pub same_back : (x y : List ℕ) → bytes_eq x y ≡ bytes_eq y x
same_back x y =
    same_test (bytes_eq x y) (bytes_eq y x) (λ e. (same_numbers-decides y x).1 (sym ((same_numbers-decides x y).0 e))) (λ e. (same_numbers-decides x y).1 (sym ((same_numbers-decides y x).0 e)))

-- ---- what the first entry of a name says

first_append_by : {X : Type 0} (b : Bool) (x : X) (one two : Option X) (all : Option X) → all ≡ option_or one two → cond b (Some x) all ≡ option_or (cond b (Some x) one) two
first_append_by true x one two all e = refl
first_append_by false x one two all e = e

first_append : {X : Type 0} (xs ys : List (Text × X)) (name : Text) → first_of (xs ++ ys) name ≡ option_or (first_of xs name) (first_of ys name)
first_append [] ys name = refl
first_append (x ∷ xs) ys name = first_append_by (bytes_eq x.0 name) x.1 (first_of xs name) (first_of ys name) (first_of (xs ++ ys) name) (first_append xs ys name)

abbrev object : Text
object = codes "object"

-- each entry is below `object`
below_by : (b : Bool) (o : Option Text) → unwrap_or o object ≡ object → unwrap_or (cond b (Some object) o) object ≡ object
below_by true o e = refl
below_by false o e = e

below_object : (types : List Typed) (name : Text) → unwrap_or (first_of (map parent_entry types ++ (object, object) ∷ []) name) object ≡ object
below_object [] name = below_by (bytes_eq object name) None refl
below_object (e ∷ types) name = below_by (bytes_eq e.1 name) (first_of (map parent_entry types ++ (object, object) ∷ []) name) (below_object types name)

or_object : (one two : Option Text) → unwrap_or two object ≡ object → unwrap_or (option_or one two) object ≡ unwrap_or one object
or_object None two e = e
or_object (Some t) two e = refl

pub index_map : {X : Type 0} (f : X → ℕ) (xs : List X) (k : ℕ) (x : X) → slice_get xs k ≡ Some x → slice_index (map f xs) k ≡ f x
index_map f [] zero x at = absurd (cc)
index_map f [] (suc k) x at = absurd (cc)
index_map f (y ∷ xs) zero x at = ap f (same_some y x at)
index_map f (y ∷ xs) (suc k) x at = index_map f xs k x at

said_by : (e : Typed) (types : List Typed) (name p : Text) (b : Bool) → (first_of types name ≡ Some p → list_any (λ (f : Typed). bytes_eq f.0 p || bytes_eq f.1 p) types ≡ true)
    → cond b (Some e.1) (first_of types name) ≡ Some p → (bytes_eq e.0 p || bytes_eq e.1 p) ≡ true ⊎ list_any (λ (f : Typed). bytes_eq f.0 p || bytes_eq f.1 p) types ≡ true
said_by e types name p true later is = inl (or_right (bytes_eq e.0 p) (bytes_eq e.1 p) ((same_numbers-decides e.1 p).1 (same_some e.1 p is)))
said_by e types name p false later is = inr (later is)

either_or : (a b : Bool) → a ≡ true ⊎ b ≡ true → (a || b) ≡ true
either_or a b (inl e) = or_left a b e
either_or a b (inr e) = or_right a b e

parent_said : (types : List Typed) (name p : Text) → first_of types name ≡ Some p → list_any (λ (f : Typed). bytes_eq f.0 p || bytes_eq f.1 p) types ≡ true
parent_said [] name p e = absurd (cc)
parent_said (e ∷ types) name p is =
    either_or (bytes_eq e.0 p || bytes_eq e.1 p) (list_any (λ (f : Typed). bytes_eq f.0 p || bytes_eq f.1 p) types) (said_by e types name p (bytes_eq e.0 name) (parent_said types name p) is)

module _ (types : List Typed) where
  abbrev pub entries : List Typed
  entries = with_parents types

  abbrev pub ups : List ℕ
  ups = map (parent_number entries) entries

  abbrev pub number : Text → Option ℕ
  number name = number_of typed_name entries name

  nested : entries ≡ types ++ (map parent_entry types ++ (object, object) ∷ [])
  nested = append_assoc types (map parent_entry types) ((object, object) ∷ [])

  any_is : (name : Text) → list_any (λ (e : Typed). bytes_eq e.0 name) entries ≡ is_type types name
  any_is name =
      ap (list_any (λ (e : Typed). bytes_eq e.0 name)) nested
      ∙ list_any-append (λ (e : Typed). bytes_eq e.0 name) types (map parent_entry types ++ (object, object) ∷ [])
      ∙ ap (λ b. list_any (λ (e : Typed). bytes_eq e.0 name) types || b)
      (list_any-append (λ (e : Typed). bytes_eq e.0 name) (map parent_entry types) ((object, object) ∷ [])
      ∙ ap (λ b. b || (bytes_eq object name || false)) (list_any-map (λ (e : Typed). bytes_eq e.0 name) parent_entry types))
      ∙ sym (or_assoc (list_any (λ (e : Typed). bytes_eq e.0 name) types) (list_any (λ (e : Typed). bytes_eq e.1 name) types) (bytes_eq object name || false))
      ∙ or_swap (list_any (λ (e : Typed). bytes_eq e.0 name) types || list_any (λ (e : Typed). bytes_eq e.1 name) types) (bytes_eq object name)
      ∙ (λ i. same_back object name i || any_either (λ (e : Typed). bytes_eq e.0 name) (λ (e : Typed). bytes_eq e.1 name) types i)

  pub number_type : (name : Text) → is_some (number name) ≡ is_type types name
  number_type name = found_any (λ (e : Typed). bytes_eq e.0 name) 0 entries ∙ any_is name

  pub type_there : (name : Text) → is_type types name ≡ true → (n : ℕ) × (number name ≡ Some n)
  type_there name is = there (number name) refl
    where
      there : (o : Option ℕ) → number name ≡ o → (n : ℕ) × (number name ≡ Some n)
      there None e = absurd (true≢false (sym is ∙ sym (number_type name) ∙ ap (λ o. is_some o) e))
      there (Some n) e = (n, e)

  object_type : is_type types object ≡ true
  object_type = or_left (bytes_eq object object) (list_any (λ (f : Typed). bytes_eq f.0 object || bytes_eq f.1 object) types) ((same_numbers-decides object object).1 refl)

  parent_type_by : (name : Text) (o : Option Text) → first_of types name ≡ o → is_type types (unwrap_or o object) ≡ true
  parent_type_by name None e = object_type
  parent_type_by name (Some p) e = or_right (bytes_eq p object) (list_any (λ (f : Typed). bytes_eq f.0 p || bytes_eq f.1 p) types) (parent_said types name p e)

  pub parent_type : (name : Text) → is_type types (parent_of types name) ≡ true
  parent_type name = parent_type_by name (first_of types name) refl

  -- the entry with the number of a type has its parent
  pub parent_known : (name : Text) (a : ℕ) (e : Typed) → number name ≡ Some a → slice_get entries a ≡ Some e → e.1 ≡ parent_of types name
  parent_known name a e is at =
      ap (λ o. unwrap_or o object) (sym (first_some entries name a e is at) ∙ ap (λ es. first_of es name) nested ∙ first_append types (map parent_entry types ++ (object, object) ∷ []) name)
      ∙ or_object (first_of types name) (first_of (map parent_entry types ++ (object, object) ∷ []) name) (below_object types name)

  step : (name : Text) (a : ℕ) → number name ≡ Some a → number (parent_of types name) ≡ Some (slice_index ups a)
  step name a is =
      let e = named_entry typed_name name (slice_get entries a) (number_is typed_name entries name a is) in
      let p = parent_known name a e.0 is e.1 in
      let m = type_there (parent_of types name) (parent_type name) in
      let read : slice_index ups a ≡ m.0 = index_map (parent_number entries) entries a e.0 e.1 ∙ ap (λ t. unwrap_or (number t) 0) p ∙ ap (λ o. unwrap_or o 0) m.1 in
      m.1 ∙ ap Some (sym read)

  pub climbing : (n : ℕ) (name : Text) (a : ℕ) → number name ≡ Some a → number (ancestor types n name) ≡ Some (climb ups n a)
  climbing zero name a is = is
  climbing (suc n) name a is = step (ancestor types n name) (climb ups n a) (climbing n name a is)

  pub alike : (x y : Text) (i j : ℕ) → number x ≡ Some i → number y ≡ Some j → bytes_eq x y ≡ (i == j)
  alike x y i j at_x at_y =
      same_test (bytes_eq x y) (i == j)
      (λ e. eq-eqb i j (same_some i j (sym at_x ∙ ap number ((same_numbers-decides x y).0 e) ∙ at_y)))
      (λ e. (same_numbers-decides x y).1
      (same_some x y (sym (number_is typed_name entries x i at_x) ∙ ap (λ n. option_map typed_name (slice_get entries n)) (eqb-true i j e) ∙ number_is typed_name entries y j at_y)))

  pub reached : (name above : Text) (a b bound : ℕ) → number name ≡ Some a → number above ≡ Some b
      → list_any (λ n. bytes_eq (ancestor types n name) above) (range_with_len 0 bound) ≡ climbs_to ups bound a b
  reached name above a b bound is_a is_b i =
      list_any (λ n. alike (ancestor types n name) above (climb ups n a) b (climbing n name a is_a) is_b i) (range_with_len 0 bound)

  -- nothing that is declared reaches what is not
  none_any : {X : Type 0} (t : X → Bool) (xs : List X) → ((x : X) → t x ≡ false) → list_any t xs ≡ false
  none_any t [] none = refl
  none_any t (x ∷ xs) none = ap (λ b. b || list_any t xs) (none x) ∙ none_any t xs none

  apart : (x y : Text) → is_some (number x) ≡ true → number y ≡ None → bytes_eq x y ≡ false
  apart x y is none =
      false_from_ne_true (bytes_eq x y) (λ e. true≢false (sym is ∙ ap (λ t. is_some (number t)) ((same_numbers-decides x y).0 e) ∙ ap (λ o. is_some o) none))

  pub below_known : (name above : Text) (a b : ℕ) → bytes_eq name above ≡ false → number name ≡ Some a → number above ≡ Some b → is_below types name above ≡ climbs_to ups (length types + 3) a b
  below_known name above a b other is_a is_b =
      (λ i. other i || ((sym (number_type name) ∙ ap (λ o. is_some o) is_a) i && reached name above a b (length types + 3) is_a is_b i))

  pub below_same : (name above : Text) → bytes_eq name above ≡ true → is_below types name above ≡ true
  below_same name above same = or_left (bytes_eq name above) (is_type types name && list_any (λ n. bytes_eq (ancestor types n name) above) (range_with_len 0 (length types + 3))) same

  pub below_none : (name above : Text) → bytes_eq name above ≡ false → number name ≡ None → is_below types name above ≡ false
  below_none name above other none =
      (λ i. other i || ((sym (number_type name) ∙ ap (λ o. is_some o) none) i && list_any (λ n. bytes_eq (ancestor types n name) above) (range_with_len 0 (length types + 3))))

  pub above_none : (name above : Text) (a : ℕ) → bytes_eq name above ≡ false → number name ≡ Some a → number above ≡ None → is_below types name above ≡ false
  above_none name above a other is_a none =
      let never = none_any (λ n. bytes_eq (ancestor types n name) above) (range_with_len 0 (length types + 3))
      (λ n. apart (ancestor types n name) above (ap (λ o. is_some o) (climbing n name a is_a)) none) in
      (λ i. other i || ((sym (number_type name) ∙ ap (λ o. is_some o) is_a) i && never i))

  -- ---- coming back

  pub climb_front : (n a : ℕ) → climb ups n (slice_index ups a) ≡ slice_index ups (climb ups n a)
  climb_front zero a = refl
  climb_front (suc n) a = ap (slice_index ups) (climb_front n a)

  pub back_object : (name : Text) → bytes_eq name object ≡ true → comes_back types name ≡ not (bytes_eq (parent_of types name) name)
  back_object name is =
      ap (λ b. if b then not (bytes_eq (parent_of types name) name) else list_any (λ n. bytes_eq (ancestor types (suc n) name) name) (range_with_len 0 (length types + 2))) is

  back_other : (name : Text) → bytes_eq name object ≡ false → comes_back types name ≡ list_any (λ n. bytes_eq (ancestor types (suc n) name) name) (range_with_len 0 (length types + 2))
  back_other name is =
      ap (λ b. if b then not (bytes_eq (parent_of types name) name) else list_any (λ n. bytes_eq (ancestor types (suc n) name) name) (range_with_len 0 (length types + 2))) is

  pub back_known : (name : Text) (a : ℕ) → bytes_eq name object ≡ false → number name ≡ Some a → comes_back types name ≡ climbs_to ups (length types + 2) (slice_index ups a) a
  back_known name a other is =
      back_other name other
      ∙ (λ i. list_any (λ n. (alike (ancestor types (suc n) name) name (climb ups (suc n) a) a (climbing (suc n) name a is) is ∙ ap (λ m. m == a) (sym (climb_front n a))) i) (range_with_len 0 (length types + 2)))

  later_type : (n : ℕ) (name : Text) → is_type types (ancestor types (suc n) name) ≡ true
  later_type n name = parent_type (ancestor types n name)

  pub back_none : (name : Text) → number name ≡ None → comes_back types name ≡ false
  back_none name none =
      let unlike = false_from_ne_true (bytes_eq name object)
      (λ e. true≢false (sym object_type ∙ ap (λ t. is_type types t) (sym ((same_numbers-decides name object).0 e)) ∙ sym (number_type name) ∙ ap (λ o. is_some o) none)) in
      back_other name unlike
      ∙ none_any (λ n. bytes_eq (ancestor types (suc n) name) name) (range_with_len 0 (length types + 2))
      (λ n. apart (ancestor types (suc n) name) name (number_type (ancestor types (suc n) name) ∙ later_type n name) none)

-- ---- the few numbers that are parents

parents_by : (all : List Typed) (t : ℕ → Bool) (es : List Typed) → list_any t (map (parent_number all) (map parent_entry es)) ≡ true → t (parent_number all (object, object)) ≡ true
parents_by all t [] e = absurd (true≢false (sym e))
parents_by all t (x ∷ es) e =
    ⊎_elim (λ here. here) (λ later. parents_by all t es later) (or_cases (t (parent_number all (object, object))) (list_any t (map (parent_number all) (map parent_entry es))) e)

module _ (types : List Typed) where
  abbrev few : List ℕ
  few = map (parent_number (entries types)) types ++ parent_number (entries types) (object, object) ∷ []

  few_long : length few ≡ length types + 1
  few_long = length-append (map (parent_number (entries types)) types) (parent_number (entries types) (object, object) ∷ []) ∙ ap (λ n. n + 1) (length-map types (parent_number (entries types)))

  pub ups_long : length (ups types) ≡ length (entries types)
  ups_long = length-map (entries types) (parent_number (entries types))

  -- each parent's number is one of the few
  few_any : (t : ℕ → Bool) → list_any t (ups types) ≡ true → list_any t few ≡ true
  few_any t e =
      let pn = parent_number (entries types) in
      let one = map pn types in
      let two = map pn (map parent_entry types) in
      let last = pn (object, object) in
      let split : ups types ≡ (one ++ two) ++ last ∷ [] =
      (map-append pn (types ++ map parent_entry types) ((object, object) ∷ []) ∙ ap (λ xs. xs ++ last ∷ []) (map-append pn types (map parent_entry types))) in
      let parts : (list_any t one || list_any t two) || (t last || false) ≡ true =
      (ap (λ b. b || (t last || false)) (sym (list_any-append t one two)) ∙ sym (list_any-append t (one ++ two) (last ∷ [])) ∙ ap (list_any t) (sym split) ∙ e) in
      list_any-append t one (last ∷ [])
      ∙ ⊎_elim
      (λ front. ⊎_elim (λ a. or_left (list_any t one) (t last || false) a)
      (λ b. or_right (list_any t one) (t last || false) (or_left (t last) false (parents_by (entries types) t types b)))
      (or_cases (list_any t one) (list_any t two) front))
      (λ back. or_right (list_any t one) (t last || false) back)
      (or_cases (list_any t one || list_any t two) (t last || false) parts)

  any_place : (xs : List ℕ) (v : ℕ) → v < length xs → list_any (λ x. slice_index xs v == x) xs ≡ true
  any_place xs v lt = list_any_at (λ x. slice_index xs v == x) xs v 0 lt (eq-eqb (slice_index xs v) (slice_index xs v) refl)

  climb_low : AreUps (ups types) → (k a : ℕ) → a < length (ups types) → climb (ups types) k a < length (ups types)
  climb_low are zero a lt = lt
  climb_low are (suc k) a lt = are (climb (ups types) k a) (climb_low are k a lt)

  -- where a number reaches another, it does so in few steps
  pub reach_bound : AreUps (ups types) → (a b bound : ℕ) → a < length (ups types) → length types + 2 ≤ bound → (result : Bool) → Decides result (Reaches (ups types) a b) → result ≡ climbs_to (ups types) bound a b
  reach_bound are a b bound lt enough result decides =
      same_test result (climbs_to (ups types) bound a b)
      (λ yes. let reach = decides.0 yes in
      let less = reach_few (ups types) few a b (λ k. few_any (λ x. climb (ups types) (suc k) a == x) (any_place (ups types) (climb (ups types) k a) (climb_low are k a lt))) reach.0 reach.1 in
      any_below (λ n. climb (ups types) n a == b) bound less.0 (omega (arith, less.1, few_long, enough)) (eq-eqb (climb (ups types) less.0 a) b less.2))
      (λ some. let there = some_below (λ n. climb (ups types) n a == b) bound some in decides.1 (there.0, eqb-true (climb (ups types) there.0 a) b there.2))

-- the numbers of parents are numbers of entries
pub ups_within : (es : List Typed) → AreUps (map (parent_number es) es)
ups_within es v lt =
    let long = length-map es (parent_number es) in
    let e = item_at es v (omega (arith, lt, long)) in
    subst (λ n. n < length (map (parent_number es) es)) (sym (index_map (parent_number es) es v e.0 e.1)) (by e.0.1 (number_of typed_name es e.0.1) refl long lt)
  where
    by : (t : Text) (o : Option ℕ) → number_of typed_name es t ≡ o → length (map (parent_number es) es) ≡ length es → v < length (map (parent_number es) es) → unwrap_or o 0 < length (map (parent_number es) es)
    by t None e long lt = omega (arith, lt)
    by t (Some n) e long lt = let low = number_below typed_name es t n e in omega (arith, low, long)

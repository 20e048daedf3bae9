-- The types that words say have chains of parents that end at `object`, where no type's chain comes back to it.
-- A chain in numbers follows the chain of names until it is at `object`; a chain that never is there would have more
-- types than are listed, so one of them would come back to itself.
use Rattle.std.proofs.Common.{◌≡◌, ◌≢◌, ℕ, ◌+◌, ◌-◌, ◌<◌, ◌≤◌, ◌&&◌, zero, suc, Bool, true, false, cond, Some, None, Option, List, [], ◌∷◌, ◌++◌, length, take, drop, refl, sym, ap, ◌∙◌, arith, ⊎_elim, inl, inr}
use Rattle.std.specs.Prelude.{◌⊎◌, not, nat_lt, codes, slice_get, unwrap_or}
use Rattle.std.specs.List.{list_any, position_from, range_with_len}
use Rattle.std.specs.Map.{lookup}
use Rattle.std.specs.Option.{option_map, option_map_or}
use Rattle.std.specs.Str.{bytes_eq}
use Rattle.std.proofs.lemmas.Bool.{true≢false, and_parts, not_from_false, cases_Bool, cases_lt, false_from_ne_true}
use Rattle.std.proofs.lemmas.Bool.Decides.{Decides-ltb}
use Rattle.std.proofs.lemmas.List.{length-map, take-append-drop}
use Rattle.std.proofs.lemmas.Option.{slice_get_within, slice_get-map}
use Rattle.mre_base.specs.declared.text.Text.{Text}
use Rattle.model_kit.specs.Types.{parent, ancestor as number_up, is_of_type}
use Rattle.model_kit.proofs.Alike.{same_numbers-decides}
use Rattle.mre_base.proofs.Loops.{drop_item}
use Rattle.mre_base.proofs.Listed.{item_at}
use Rattle.model_kit.proofs.TypeLemmas.{any_below, from_steps_up}
use Rattle.pddl_text.specs.declared.fault.TextRule.TheVariants as rule
use Rattle.pddl_text.specs.declared.place.Place.{Place}
use Rattle.pddl_names.specs.declared.kind.Kind.TheVariants as kind
use Rattle.pddl_names.specs.declared.role.Role.{Role}
use Rattle.pddl_names.specs.declared.role.Role.TheVariants as role
use Rattle.pddl_names.specs.declared.role.Word.{Word}
use Rattle.pddl_names.specs.Kinds.{is_kind, declares, first_place}
use Rattle.pddl_names.specs.Listings.{Typed, Declared, nothing, declared, types_listed, type_behind, parent_of, ancestor, first_of, comes_back}
use Rattle.pddl_names.specs.Naming.{breaks, is_again, IsNamed}
use Rattle.pddl_names.specs.Numbers.{number_of}
use Rattle.pddl_vocabulary.specs.Values.{place_in, type_names, types_said}
use Rattle.pddl_names.specs.Numbers.{text_name}
use Rattle.pddl_names.proofs.AgainLemmas.{again_some}
use Rattle.pddl_vocabulary.proofs.GatherLemmas.{position_within}
use Rattle.pddl_names.proofs.NumberLemmas.{named_entry, number_is}
use Rattle.pddl_vocabulary.proofs.PigeonLemmas.{meeting}
use Rattle.pddl_names.proofs.PlaceLemmas.{first_type}

-- ---- the first place of a name

passing_by : {X : Type 0} (t : X → Bool) (x : X) (xs : List X) (i p : ℕ) → ((q : ℕ) → position_from t (i + 1) xs ≡ Some q → (n : ℕ) × (y : X) × (q ≡ i + 1 + n) × (slice_get xs n ≡ Some y) × (t y ≡ true))
    → (b : Bool) → t x ≡ b → cond b (Some i) (position_from t (i + 1) xs) ≡ Some p → (n : ℕ) × (y : X) × (p ≡ i + n) × (slice_get (x ∷ xs) n ≡ Some y) × (t y ≡ true)
passing_by t x xs i p more true is e = let same : i ≡ p = cc in (0, x, omega (arith, same), refl, is)
passing_by t x xs i p more false is e = let found = more p e in let at = found.2 in (suc found.0, found.1, omega (arith, at), found.3, found.4)

passing_from : {X : Type 0} (t : X → Bool) (i : ℕ) (xs : List X) (p : ℕ) → position_from t i xs ≡ Some p → (n : ℕ) × (y : X) × (p ≡ i + n) × (slice_get xs n ≡ Some y) × (t y ≡ true)
passing_from t i [] p e = absurd (cc)
passing_from t i (x ∷ xs) p e = passing_by t x xs i p (λ q found. passing_from t (i + 1) xs q found) (t x) refl e

-- the item at the first place passes
pub passing : {X : Type 0} (t : X → Bool) (xs : List X) (p : ℕ) → position_from t 0 xs ≡ Some p → (y : X) × (slice_get xs p ≡ Some y) × (t y ≡ true)
passing t xs p e =
    let found = passing_from t 0 xs p e in
    let at = found.2 in
    let same : found.0 ≡ p = omega (arith, at) in
    (found.1, ap (slice_get xs) (sym same) ∙ found.3, found.4)

-- a name that has an entry has a place
looked_by : {X : Type 0} (name : Text) (e : Text × X) (entries : List (Text × X)) (i : ℕ) (x : X) → (lookup (λ key. bytes_eq key name) entries ≡ Some x → (p : ℕ) × (position_from (λ f. bytes_eq f.0 name) (i + 1) entries ≡ Some p))
    → (b : Bool) → cond b (Some e.1) (lookup (λ key. bytes_eq key name) entries) ≡ Some x → (p : ℕ) × (cond b (Some i) (position_from (λ f. bytes_eq f.0 name) (i + 1) entries) ≡ Some p)
looked_by name e entries i x more true is = (i, refl)
looked_by name e entries i x more false is = more is

looked : {X : Type 0} (name : Text) (entries : List (Text × X)) (i : ℕ) (x : X) → first_of entries name ≡ Some x → (p : ℕ) × (position_from (λ f. bytes_eq f.0 name) i entries ≡ Some p)
looked name [] i x is = absurd (cc)
looked name (e ∷ entries) i x is = looked_by name e entries i x (λ later. looked name entries (i + 1) x later) (bytes_eq e.0 name) is

-- ---- no chain of parents comes back

cycle_by : (base : Declared) (r : Role) (text : Text) (at : Place) (before rest : List Word) → is_kind kind.Types r ≡ true
    → breaks base before (record { role = r; text = text; at = at }) rest rule.TypeCycle ≡ false
    → (comes_back (declared base (before ++ record { role = r; text = text; at = at } ∷ rest)).types text && not (is_again before (record { role = r; text = text; at = at }))) ≡ false
cycle_by base role.ListedType text at before rest is kept = kept
cycle_by base _ text at before rest is kept = absurd (true≢false (sym is))

both_false : (a b : Bool) → (a && b) ≡ false → b ≡ true → a ≡ false
both_false true b e is = absurd (true≢false (sym is ∙ e))
both_false false b e is = refl

module _ (said : List Word) (named : IsNamed nothing said) where
  abbrev listed : List Typed
  listed = types_listed said

  abbrev Listed : Text → Type 0
  Listed name = (place : ℕ) × (first_place kind.Types said name ≡ Some place)

  declared_there : (name : Text) (place : ℕ) → first_place kind.Types said name ≡ Some place → (w : Word) × (slice_get said place ≡ Some w) × (is_kind kind.Types w.role ≡ true) × (w.text ≡ name)
  declared_there name place is =
      let found = passing (declares kind.Types name) said place is in
      let both = and_parts (is_kind kind.Types found.0.role) (bytes_eq found.0.text name) found.2 in
      (found.0, found.1, both.0, (same_numbers-decides found.0.text name).0 both.1)

  not_less : (n : ℕ) → nat_lt n n ≡ false
  not_less n = false_from_ne_true (nat_lt n n) (λ e. let lt = (Decides-ltb n n).0 e in omega (arith, lt))

  no_return : (name : Text) → Listed name → comes_back listed name ≡ false
  no_return name (place, is) =
      let there = declared_there name place is in
      let w = there.0 in
      let before = take place said in
      let rest = drop (place + 1) said in
      let split : said ≡ before ++ w ∷ rest = sym (take-append-drop place said) ∙ ap (λ l. before ++ l) (drop_item said place w there.1) in
      let here : first_place kind.Types said w.text ≡ Some place = ap (first_place kind.Types said) there.3 ∙ is in
      let first : not (is_again before w) ≡ true = not_from_false (is_again before w) (sym (again_some kind.Types said place w there.1 refl there.2 place here) ∙ not_less place) in
      let kept = cycle_by nothing w.role w.text w.at before rest there.2 (named before w rest split rule.TypeCycle) in
      ap (comes_back listed) (sym there.3)
      ∙ ap (λ l. comes_back (types_listed l) w.text) split
      ∙ both_false (comes_back (types_listed (before ++ w ∷ rest)) w.text) (not (is_again before w)) kept first

  -- ---- parents by name

  parent_by : (name : Text) (o : Option ℕ) → first_place kind.Types said name ≡ o
      → parent_of listed name ≡ unwrap_or (option_map (λ place. type_behind (drop (place + 1) said)) o) (codes "object")
  parent_by name o is =
      ap (λ p. unwrap_or p (codes "object")) (first_type said name) ∙ ap (λ p. unwrap_or (option_map (λ place. type_behind (drop (place + 1) said)) p) (codes "object")) is

  -- a type is listed, or its parent is `object`
  listed_by : (name : Text) (o : Option ℕ) → first_place kind.Types said name ≡ o → Listed name ⊎ (parent_of listed name ≡ codes "object")
  listed_by name None is = inr (parent_by name None is)
  listed_by name (Some place) is = inl (place, is)

  listed_or : (name : Text) → Listed name ⊎ (parent_of listed name ≡ codes "object")
  listed_or name = listed_by name (first_place kind.Types said name) refl

  entry_of : (name : Text) → Listed name → (type : Text) × (first_of listed name ≡ Some type)
  entry_of name (place, is) = (type_behind (drop (place + 1) said), first_type said name ∙ ap (option_map (λ p. type_behind (drop (p + 1) said))) is)

  own_parent : not (bytes_eq (parent_of listed (codes "object")) (codes "object")) ≡ false → parent_of listed (codes "object") ≡ codes "object"
  own_parent e = by (bytes_eq (parent_of listed (codes "object")) (codes "object")) refl e
    where
      by : (b : Bool) → bytes_eq (parent_of listed (codes "object")) (codes "object") ≡ b → not b ≡ false → parent_of listed (codes "object") ≡ codes "object"
      by true is e = (same_numbers-decides (parent_of listed (codes "object")) (codes "object")).0 is
      by false is e = absurd (true≢false e)

  -- `object` is its own parent
  pub top_parent : parent_of listed (codes "object") ≡ codes "object"
  top_parent = ⊎_elim (λ there. own_parent (no_return (codes "object") there)) (λ e. e) (listed_or (codes "object"))

  -- no type but `object` is that many parents above itself
  never : (name : Text) (steps : ℕ) → Listed name → name ≢ codes "object" → steps < length listed + 2 → ancestor listed (suc steps) name ≢ name
  never name steps there apart few same =
      let other : bytes_eq name (codes "object") ≡ false = false_from_ne_true (bytes_eq name (codes "object")) (λ e. apart ((same_numbers-decides name (codes "object")).0 e)) in
      let back : comes_back listed name ≡ true =
      ap (λ b. cond b (not (bytes_eq (parent_of listed name) name)) (list_any (λ n. bytes_eq (ancestor listed (suc n) name) name) (range_with_len 0 (length listed + 2)))) other
      ∙ any_below (λ n. bytes_eq (ancestor listed (suc n) name) name) (length listed + 2) steps few ((same_numbers-decides (ancestor listed (suc steps) name) name).1 same) in
      true≢false (sym back ∙ no_return name there)

  ancestor-add : (m n : ℕ) (name : Text) → ancestor listed (m + n) name ≡ ancestor listed m (ancestor listed n name)
  ancestor-add zero n name = let same : 0 + n ≡ n = omega arith in ap (λ k. ancestor listed k name) same
  ancestor-add (suc m) n name =
      let grows : suc m + n ≡ suc (m + n) = omega arith in
      ap (λ k. ancestor listed k name) grows ∙ ap (parent_of listed) (ancestor-add m n name)

  -- a chain in which two names are the same
  never_twice : (name : Text) (m n : ℕ) → m < n → n ≤ m + length listed + 2 → Listed (ancestor listed m name) → ancestor listed m name ≢ codes "object"
      → ancestor listed m name ≢ ancestor listed n name
  never_twice name m n order few there apart same =
      let steps : suc (n - m - 1) + m ≡ n = omega arith in
      never (ancestor listed m name) (n - m - 1) there apart (omega arith)
      (sym (ancestor-add (suc (n - m - 1)) m name) ∙ ap (λ k. ancestor listed k name) steps ∙ sym same)

  -- ---- the same in numbers

  abbrev names : List Text
  names = type_names said

  abbrev types : List (Text × ℕ)
  types = types_said said

  abbrev entry : Text → Text × ℕ
  entry name = (name, place_in names (parent_of listed name))

  pub parent_is : (type : ℕ) (name : Text) → slice_get names type ≡ Some name → parent types type ≡ place_in names (parent_of listed name)
  parent_is type name at =
      ap (λ (o : Option (Text × ℕ)). option_map_or (λ e. e.1) o 0) (slice_get-map entry names type ∙ ap (option_map entry) at)

  name_by : (name : Text) (o : Option ℕ) → number_of text_name names name ≡ o → unwrap_or o 0 ≢ 0 → slice_get names (unwrap_or o 0) ≡ Some name
  name_by name None is apart = absurd (apart refl)
  name_by name (Some number) is apart =
      let at = named_entry text_name name (slice_get names number) (number_is text_name names name number is) in
      at.1 ∙ ap Some at.2

  -- a number other than that of `object` is the number of the name
  pub name_at : (name : Text) → place_in names name ≢ 0 → slice_get names (place_in names name) ≡ Some name
  name_at name apart = name_by name (number_of text_name names name) refl apart

  module _ (type : ℕ) (name : Text) (at : slice_get names type ≡ Some name) where
    -- as long as the chain in numbers is not at `object` it follows the names
    follows : (n : ℕ) → ((k : ℕ) → k ≤ n → number_up types k type ≢ 0) → slice_get names (number_up types n type) ≡ Some (ancestor listed n name)
    follows zero apart = at
    follows (suc n) apart =
        let here = follows n (λ k le. apart k (omega arith)) in
        let is = parent_is (number_up types n type) (ancestor listed n name) here in
        ap (slice_get names) is ∙ name_at (parent_of listed (ancestor listed n name)) (λ none. apart (suc n) (omega arith) (is ∙ none))

    module _ (n : ℕ) (apart : (k : ℕ) → k ≤ suc n → number_up types k type ≢ 0) where
      above : place_in names (parent_of listed (ancestor listed n name)) ≢ 0
      above none = apart (suc n) (omega arith) (parent_is (number_up types n type) (ancestor listed n name) (follows n (λ k le. apart k (omega arith))) ∙ none)

      there : Listed (ancestor listed n name)
      there = ⊎_elim (λ is. is) (λ top. absurd (above (ap (place_in names) top))) (listed_or (ancestor listed n name))

      no_top : ancestor listed n name ≢ codes "object"
      no_top is = above (ap (place_in names) (ap (parent_of listed) is ∙ top_parent))

  -- ---- each chain ends at `object`

  some_same : (x y : Text) → Some x ≡ Some y → x ≡ y
  some_same x y e = cc

  -- where a name is listed first
  abbrev index : Text → ℕ
  index name = unwrap_or (position_from (λ (e : Typed). bytes_eq e.0 name) 0 listed) 0

  record Indexed (name : Text) : Type 0 where
    within : index name < length listed
    entry : Typed
    at : slice_get listed (index name) ≡ Some entry
    is : entry.0 ≡ name

  indexed : (name : Text) → Listed name → Indexed name
  indexed name there =
      let first = entry_of name there in
      let place = looked name listed 0 first.0 first.1 in
      let number : index name ≡ place.0 = ap (λ o. unwrap_or o 0) place.1 in
      let within = position_within (λ (e : Typed). bytes_eq e.0 name) 0 listed place.0 place.1 in
      let found = passing (λ (e : Typed). bytes_eq e.0 name) listed place.0 place.1 in
      record {
        within = omega (arith, number, within);
        entry = found.0;
        at = ap (slice_get listed) number ∙ found.1;
        is = (same_numbers-decides found.0.0 name).0 found.2;
      }

  same_index : (one two : Text) → Indexed one → Indexed two → index one ≡ index two → one ≡ two
  same_index one two first second same =
      let entries : Some first.entry ≡ Some second.entry = sym first.at ∙ ap (slice_get listed) same ∙ second.at in
      let entry : first.entry ≡ second.entry = cc in
      sym first.is ∙ ap (λ (e : Typed). e.0) entry ∙ second.is

  module _ (type : ℕ) (name : Text) (at : slice_get names type ≡ Some name) (apart : (k : ℕ) → k ≤ length types → number_up types k type ≢ 0) where
    before : (n : ℕ) → n ≤ length types → (k : ℕ) → k ≤ n → number_up types k type ≢ 0
    before n within k le = apart k (omega arith)

    -- no more types than are listed and two more
    few_types : length types ≤ length listed + 2 → ⊥
    few_types few =
        let counted = length-map names entry in
        let meet = meeting (length types) (λ k. number_up types k type)
        (λ k le. let lt = slice_get_within names (number_up types k type) (ancestor listed k name) (follows type name at k (before k le)) in omega (arith, counted, lt)) in
        let within = meet.within in
        let order = meet.order in
        let same : ancestor listed meet.first name ≡ ancestor listed meet.second name =
        some_same (ancestor listed meet.first name) (ancestor listed meet.second name)
        (sym (follows type name at meet.first (before meet.first (omega (arith, within, order)))) ∙ ap (slice_get names) meet.same ∙ follows type name at meet.second (before meet.second within)) in
        let later = before (suc meet.first) (omega (arith, within, order)) in
        never_twice name meet.first meet.second order (omega (arith, within, few)) (there type name at meet.first later) (no_top type name at meet.first later) same

    many_types : length listed + 2 < length types → ⊥
    many_types many =
        let places = λ (k : ℕ) (le : k ≤ length listed). indexed (ancestor listed k name) (there type name at k (before (suc k) (omega (arith, many, le)))) in
        let meet = meeting (length listed) (λ k. index (ancestor listed k name)) (λ k le. (places k le).within) in
        let within = meet.within in
        let order = meet.order in
        let first : meet.first ≤ length listed = omega (arith, within, order) in
        let same = same_index (ancestor listed meet.first name) (ancestor listed meet.second name) (places meet.first first) (places meet.second within) meet.same in
        let later = before (suc meet.first) (omega (arith, within, order, many)) in
        never_twice name meet.first meet.second order (omega (arith, within)) (there type name at meet.first later) (no_top type name at meet.first later) same

    endless : ⊥
    endless = ⊎_elim many_types few_types (cases_lt (length listed + 2) (length types))

  pub chains_end : (type : ℕ) → type < length types → is_of_type types type 0 ≡ true
  chains_end type lt =
      let counted = length-map names entry in
      let name = item_at names type (omega (arith, counted, lt)) in
      ⊎_elim (λ is. is)
      (λ is. absurd (endless type name.0 name.1 (λ k le up. true≢false (sym (from_steps_up types type 0 k le up) ∙ is))))
      (cases_Bool (is_of_type types type 0))

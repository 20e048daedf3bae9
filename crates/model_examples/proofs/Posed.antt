-- A list of places is that of the differences of two models, by a test that computes.
use Rattle.std.proofs.Common.{◌≡◌, ℕ, ◌<◌, ◌≤◌, zero, suc, Bool, true, false, cond, List, [], ◌∷◌, ◌++◌, length, get_or, map, Option, None, Some, refl, sym, ap, subst, ◌∙◌, arith, ⊎_elim, inl, inr}
use Rattle.std.specs.Prelude.{◌⊎◌, ◌||◌, ◌&&◌, ◌==◌, not, nat_lt, nat_le, nat_eq, Contains, AllPairs, slice_get}
use Rattle.std.specs.Bool.{Decides, beq}
use Rattle.std.specs.List.{list_any, list_all, flat_map, range_with_len}
use Rattle.std.specs.Option.{option_map_or}
use Rattle.std.specs.Ordering.{nat_cmp, is_lt}
use Rattle.std.specs.Cmp.Lexicographic.{slice_cmp, pointwise, pointwise_decides}
use Rattle.std.specs.declared.cmp.Ordering.{Ordering}
use Rattle.std.specs.declared.cmp.Ordering.TheVariants.{Less, Equal, Greater}
use Rattle.std.proofs.lemmas.Bool.{true≢false, cases_Bool, and_parts, and_from, or_cases, not-true, eqb-true, leb-true, le-leb}
use Rattle.std.proofs.lemmas.Bool.Decides.{Decides-eqb}
use Rattle.std.proofs.lemmas.List.Elements.{Contains-append_left, Contains-append_right, All-contains}
use Rattle.std.proofs.lemmas.List.Kept.{AllPairs-cons}
use Rattle.model_kit.specs.declared.vocabulary.Vocabulary.{Vocabulary}
use Rattle.model_kit.specs.declared.atom.SchemaAtom.{SchemaAtom}
use Rattle.model_kit.specs.declared.model.Model.{Model}
use Rattle.model_kit.specs.declared.model.Schema.{Schema}
use Rattle.model_kit.specs.declared.model.CostExpr.{CostExpr}
use Rattle.model_kit.specs.declared.model.CostExpr.TheVariants.{Number, Call}
use Rattle.model_kit.specs.Same.{same_numbers, same_term, same_atom, same_schema_atom}
use Rattle.model_kit.specs.Places.{Place, Init, Goal, Knows, Pre, Add, Del, Cost, Value, Content, Feature, Price, Worth, Nothing, same_place, schema_has, value_of, meaning}
use Rattle.model_kit.specs.Printed.{printed}
use Rattle.model_kit.specs.Differences.{group, IsListedBefore, AreDifferences}
use Rattle.model_kit.specs.declared.action.GroundAction.{GroundAction}
use Rattle.model_kit.specs.Explanations.{AreWeights, IsPosed}
use Rattle.model_kit.specs.Laws.{task_of}
use Rattle.model_kit.proofs.Alike.{same_numbers-decides, same_term-decides, same_atom-decides}
use Rattle.std.proofs.lemmas.Option.{slice_get_within}
use Rattle.model_kit.proofs.Fits.{entry_listed}
use Rattle.model_kit.proofs.Ands.{and3}
use Rattle.model_kit.proofs.Distinct.{all_decides}
use Rattle.model_kit.proofs.ListLemmas.{beq-decides, range_contains, flat_contains}
use Rattle.model_kit.proofs.StepLemmas.{listed_from_any}
use Rattle.model_kit.proofs.PatchedLemmas.{listed_atoms, has_listed}
use Rattle.model_kit.proofs.PlaceLemmas.{listed_place, unlisted_place}
use Rattle.mre_base.proofs.Listed.{map-contains}

-- ---- contents

abbrev pub same_cost : CostExpr → CostExpr → Bool
same_cost (Number m) (Number n) = m == n
same_cost (Number m) (Call g ys) = false
same_cost (Call f xs) (Number n) = false
same_cost (Call f xs) (Call g ys) = (f == g) && pointwise same_term xs ys

same_cost-decides : (c d : CostExpr) → Decides (same_cost c d) (c ≡ d)
same_cost-decides (Number m) (Number n) = (λ e. ap Number ((Decides-eqb m n).0 e), λ e. (Decides-eqb m n).1 (cc))
same_cost-decides (Number m) (Call g ys) = (λ e. absurd (true≢false (sym e)), λ e. absurd (cc))
same_cost-decides (Call f xs) (Number n) = (λ e. absurd (true≢false (sym e)), λ e. absurd (cc))
same_cost-decides (Call f xs) (Call g ys) = (
  λ e. let parts = and_parts (f == g) (pointwise same_term xs ys) e in (λ i. Call ((Decides-eqb f g).0 parts.0 i) ((pointwise_decides same_term-decides xs ys).0 parts.1 i)),
  λ e. and_from (f == g) (pointwise same_term xs ys) ((Decides-eqb f g).1 (cc)) ((pointwise_decides same_term-decides xs ys).1 (cc)),
)

abbrev pub same_worth : Option ℕ → Option ℕ → Bool
same_worth None None = true
same_worth None (Some n) = false
same_worth (Some m) None = false
same_worth (Some m) (Some n) = m == n

same_worth-decides : (c d : Option ℕ) → Decides (same_worth c d) (c ≡ d)
same_worth-decides None None = (λ e. refl, λ e. refl)
same_worth-decides None (Some n) = (λ e. absurd (true≢false (sym e)), λ e. absurd (cc))
same_worth-decides (Some m) None = (λ e. absurd (true≢false (sym e)), λ e. absurd (cc))
same_worth-decides (Some m) (Some n) = (λ e. ap Some ((Decides-eqb m n).0 e), λ e. (Decides-eqb m n).1 (cc))

abbrev pub same_content : Content → Content → Bool
same_content (Feature a) (Feature b) = beq a b
same_content (Price c) (Price d) = same_cost c d
same_content (Worth c) (Worth d) = same_worth c d
same_content Nothing Nothing = true
same_content _ _ = false

pub same_content-says : (c d : Content) → same_content c d ≡ true → c ≡ d
same_content-says (Feature a) (Feature b) e = ap Feature ((beq-decides a b).0 e)
same_content-says (Feature a) (Price b) e = absurd (true≢false (sym e))
same_content-says (Feature a) (Worth b) e = absurd (true≢false (sym e))
same_content-says (Feature a) Nothing e = absurd (true≢false (sym e))
same_content-says (Price a) (Feature b) e = absurd (true≢false (sym e))
same_content-says (Price a) (Price b) e = ap Price ((same_cost-decides a b).0 e)
same_content-says (Price a) (Worth b) e = absurd (true≢false (sym e))
same_content-says (Price a) Nothing e = absurd (true≢false (sym e))
same_content-says (Worth a) (Feature b) e = absurd (true≢false (sym e))
same_content-says (Worth a) (Price b) e = absurd (true≢false (sym e))
same_content-says (Worth a) (Worth b) e = ap Worth ((same_worth-decides a b).0 e)
same_content-says (Worth a) Nothing e = absurd (true≢false (sym e))
same_content-says Nothing (Feature b) e = absurd (true≢false (sym e))
same_content-says Nothing (Price b) e = absurd (true≢false (sym e))
same_content-says Nothing (Worth b) e = absurd (true≢false (sym e))
same_content-says Nothing Nothing e = refl

same_content-self : (c : Content) → same_content c c ≡ true
same_content-self (Feature a) = (beq-decides a a).1 refl
same_content-self (Price a) = (same_cost-decides a a).1 refl
same_content-self (Worth a) = (same_worth-decides a a).1 refl
same_content-self Nothing = refl

-- ---- where a model isn't empty

-- the content of a place that a model doesn't list
abbrev default : Place → Content
default (Cost action) = Nothing
default (Value f xs) = Worth None
default _ = Feature false

abbrev of_schema : Model → ℕ → List Place
of_schema model i =
    Knows i ∷ Cost i ∷ (map (Pre i) (listed_atoms (λ s. s.pre) model i) ++ (map (Add i) (listed_atoms (λ s. s.add) model i) ++ map (Del i) (listed_atoms (λ s. s.del) model i)))

-- the places that a model lists
abbrev pub listed_places : Model → List Place
listed_places model =
    map Init model.init ++ (map Goal model.goal ++ (flat_map (of_schema model) (range_with_len 0 (length model.schemas)) ++ map (λ v. Value v.0 v.1) model.values))

in_rest : (q r : Place) (xs : List Place) (p : Place) → Contains xs p → Contains (q ∷ r ∷ xs) p
in_rest q r xs p at = (suc (suc at.0), omega (arith, at.1), at.2)

unvalued : (f : ℕ) (xs : List ℕ) (vs : List (ℕ × List ℕ × ℕ)) → ((v : ℕ × List ℕ × ℕ) → Value v.0 v.1 ≡ Value f xs → Contains vs v → ⊥) → value_of vs f xs ≡ None
unvalued f xs [] apart = refl
unvalued f xs (v ∷ vs) apart = by ((v.0 == f) && same_numbers v.1 xs) refl (unvalued f xs vs (λ w is at. apart w is (suc at.0, omega (arith, at.1), at.2)))
  where
    by : (b : Bool) → ((v.0 == f) && same_numbers v.1 xs) ≡ b → value_of vs f xs ≡ None → cond b (Some v.2) (value_of vs f xs) ≡ None
    by true e rest =
        let parts = and_parts (v.0 == f) (same_numbers v.1 xs) e in
        absurd (apart v (λ i. Value (eqb-true v.0 f parts.0 i) ((same_numbers-decides v.1 xs).0 parts.1 i)) (zero, omega arith, refl))
    by false e rest = rest

module _ (model : Model) where
  in_schema : (i : ℕ) (p : Place) → i < length model.schemas → Contains (of_schema model i) p → Contains (listed_places model) p
  in_schema i p lt at =
      Contains-append_right (map Init model.init) _ p (Contains-append_right (map Goal model.goal) _ p
      (Contains-append_left (flat_map (of_schema model) (range_with_len 0 (length model.schemas))) _ p (flat_contains (of_schema model) (range_with_len 0 (length model.schemas)) i p (range_contains (length model.schemas) i lt) at)))

  -- a feature that is on is listed
  off : (on : Bool) (p : Place) → (on ≡ true → Contains (listed_places model) p) → ¬ Contains (listed_places model) p → Feature on ≡ Feature false
  off true p there away = absurd (away (there refl))
  off false p there away = refl

  part_at : (part : Schema → List SchemaAtom) (place : ℕ → SchemaAtom → Place)
      → ((i : ℕ) (f : SchemaAtom) → Contains (listed_atoms part model i) f → Contains (of_schema model i) (place i f))
      → (i : ℕ) (f : SchemaAtom) → schema_has part model i f ≡ true → Contains (listed_places model) (place i f)
  part_at part place inside i f on =
      in_schema i (place i f) (entry_listed (λ schema. list_any (same_schema_atom f) (part schema)) model.schemas i on) (inside i f (has_listed part model i f on))

  pub elsewhere : (p : Place) → ¬ Contains (listed_places model) p → meaning model p ≡ default p
  elsewhere (Init a) away =
      off (list_any (same_atom a) model.init) (Init a)
      (λ on. Contains-append_left (map Init model.init) _ (Init a) (map-contains Init model.init a (listed_from_any same_atom same_atom-decides a model.init on))) away
  elsewhere (Goal a) away =
      off (list_any (same_atom a) model.goal) (Goal a)
      (λ on. Contains-append_right (map Init model.init) _ (Goal a)
      (Contains-append_left (map Goal model.goal) _ (Goal a) (map-contains Goal model.goal a (listed_from_any same_atom same_atom-decides a model.goal on)))) away
  elsewhere (Knows i) away =
      off (nat_lt i (length model.schemas) && not (list_any (λ unknown. unknown == i) model.unknown)) (Knows i)
      (λ on. in_schema i (Knows i) (leb-true (suc i) (length model.schemas) (and_parts (nat_lt i (length model.schemas)) _ on).0) (zero, omega arith, refl)) away
  elsewhere (Pre i f) away =
      off (schema_has (λ s. s.pre) model i f) (Pre i f)
      (part_at (λ s. s.pre) Pre
      (λ j g at. in_rest (Knows j) (Cost j) _ (Pre j g)
      (Contains-append_left (map (Pre j) (listed_atoms (λ s. s.pre) model j)) _ (Pre j g) (map-contains (Pre j) (listed_atoms (λ s. s.pre) model j) g at)))
      i f) away
  elsewhere (Add i f) away =
      off (schema_has (λ s. s.add) model i f) (Add i f)
      (part_at (λ s. s.add) Add
      (λ j g at. in_rest (Knows j) (Cost j) _ (Add j g)
      (Contains-append_right (map (Pre j) (listed_atoms (λ s. s.pre) model j)) _ (Add j g)
      (Contains-append_left (map (Add j) (listed_atoms (λ s. s.add) model j)) _ (Add j g) (map-contains (Add j) (listed_atoms (λ s. s.add) model j) g at))))
      i f) away
  elsewhere (Del i f) away =
      off (schema_has (λ s. s.del) model i f) (Del i f)
      (part_at (λ s. s.del) Del
      (λ j g at. in_rest (Knows j) (Cost j) _ (Del j g)
      (Contains-append_right (map (Pre j) (listed_atoms (λ s. s.pre) model j)) _ (Del j g)
      (Contains-append_right (map (Add j) (listed_atoms (λ s. s.add) model j)) _ (Del j g) (map-contains (Del j) (listed_atoms (λ s. s.del) model j) g at))))
      i f) away
  elsewhere (Cost i) away = by (slice_get model.schemas i) refl
    where
      by : (o : Option Schema) → slice_get model.schemas i ≡ o → option_map_or (λ s. Price s.cost) o Nothing ≡ Nothing
      by None is = refl
      by (Some schema) is = absurd (away (in_schema i (Cost i) (slice_get_within model.schemas i schema is) (suc zero, omega arith, refl)))
  elsewhere (Value f xs) away =
      ap Worth (unvalued f xs model.values
      (λ v is at. away (Contains-append_right (map Init model.init) _ (Value f xs) (Contains-append_right (map Goal model.goal) _ (Value f xs)
      (Contains-append_right (flat_map (of_schema model) (range_with_len 0 (length model.schemas))) _ (Value f xs)
      (subst (Contains (map (λ w. Value w.0 w.1) model.values)) is (map-contains (λ w. Value w.0 w.1) model.values v at)))))))

-- ---- the test

abbrev is_listed_before : Vocabulary → Place → Place → Bool
is_listed_before words p q =
    nat_lt (group words p) (group words q) || (nat_eq (group words p) (group words q) && is_lt (slice_cmp nat_cmp (printed words p) (printed words q)))

abbrev are_ordered : Vocabulary → List Place → Bool
are_ordered words [] = true
are_ordered words (p ∷ places) = list_all (is_listed_before words p) places && are_ordered words places

-- the models differ at each place of the list, it is in order, and each other place that one of them lists is the same in both
abbrev pub are_differences : Vocabulary → Model → Model → List Place → Bool
are_differences words planner user places =
    list_all (λ p. not (same_content (meaning planner p) (meaning user p))) places
    && are_ordered words places
    && list_all (λ p. same_content (meaning planner p) (meaning user p) || list_any (λ q. same_place q p) places) (listed_places planner ++ listed_places user)

lt_is_less : (o : Ordering) → is_lt o ≡ true → o ≡ Less
lt_is_less Less e = refl
lt_is_less Equal e = absurd (true≢false (sym e))
lt_is_less Greater e = absurd (true≢false (sym e))

before_says : (words : Vocabulary) (p q : Place) → is_listed_before words p q ≡ true → IsListedBefore words p q
before_says words p q e =
    ⊎_elim (λ less. inl (leb-true (suc (group words p)) (group words q) less))
    (λ rest. let parts = and_parts (nat_eq (group words p) (group words q)) (is_lt (slice_cmp nat_cmp (printed words p) (printed words q))) rest in
    inr (eqb-true (group words p) (group words q) parts.0, lt_is_less (slice_cmp nat_cmp (printed words p) (printed words q)) parts.1))
    (or_cases (nat_lt (group words p) (group words q)) _ e)

ordered_says : (words : Vocabulary) (places : List Place) → are_ordered words places ≡ true → AllPairs (IsListedBefore words) places
ordered_says words [] e = λ i j d lt within. absurd (omega arith)
ordered_says words (p ∷ places) e =
    let parts = and_parts (list_all (is_listed_before words p) places) (are_ordered words places) e in
    let all = (all_decides (is_listed_before words p) (λ q. is_listed_before words p q ≡ true) (λ q. (λ h. h, λ h. h)) places).0 parts.0 in
    AllPairs-cons (IsListedBefore words) p places (λ k d lt. before_says words p (get_or places k d) (all k d lt)) (ordered_says words places parts.1)

module _ (words : Vocabulary) (planner user : Model) (places : List Place) (e : are_differences words planner user places ≡ true) where
  abbrev test : Place → Bool
  test p = same_content (meaning planner p) (meaning user p) || list_any (λ q. same_place q p) places

  parts : (list_all (λ p. not (same_content (meaning planner p) (meaning user p))) places ≡ true) × (are_ordered words places ≡ true) × (list_all test (listed_places planner ++ listed_places user) ≡ true)
  parts = and3 (list_all (λ p. not (same_content (meaning planner p) (meaning user p))) places) (are_ordered words places) (list_all test (listed_places planner ++ listed_places user)) e

  passes : {X : Type 0} (t : X → Bool) (xs : List X) → list_all t xs ≡ true → (x : X) → Contains xs x → t x ≡ true
  passes t xs all x at = All-contains (λ y. t y ≡ true) xs x ((all_decides t (λ y. t y ≡ true) (λ y. (λ h. h, λ h. h)) xs).0 all) at

  -- a place that isn't a difference
  alike : (p : Place) → ¬ Contains places p → meaning planner p ≡ meaning user p
  alike p away = by (cases_Bool (list_any (λ q. same_place q p) (listed_places planner ++ listed_places user)))
    where
      here : test p ≡ true → meaning planner p ≡ meaning user p
      here t = ⊎_elim (λ same. same_content-says (meaning planner p) (meaning user p) same) (λ told. absurd (away (listed_place p places told))) (or_cases (same_content (meaning planner p) (meaning user p)) (list_any (λ q. same_place q p) places) t)

      by : (list_any (λ q. same_place q p) (listed_places planner ++ listed_places user) ≡ true) ⊎ (list_any (λ q. same_place q p) (listed_places planner ++ listed_places user) ≡ false) → meaning planner p ≡ meaning user p
      by (inl listed) = here (passes test (listed_places planner ++ listed_places user) parts.2 p (listed_place p (listed_places planner ++ listed_places user) listed))
      by (inr none) =
          let apart = unlisted_place p (listed_places planner ++ listed_places user) none in
          elsewhere planner p (λ at. apart (Contains-append_left (listed_places planner) (listed_places user) p at)) ∙ sym (elsewhere user p (λ at. apart (Contains-append_right (listed_places planner) (listed_places user) p at)))

  pub differences_by : AreDifferences words (meaning planner) (meaning user) places
  differences_by = record {
    differ = λ p at same.
        let off = not-true (same_content (meaning planner p) (meaning user p)) (passes (λ q. not (same_content (meaning planner q) (meaning user q))) places parts.0 p at) in
        true≢false (sym (same_content-self (meaning user p)) ∙ ap (λ c. same_content c (meaning user p)) (sym same) ∙ off);
    agree = alike;
    ordered = ordered_says words places parts.1;
  }

-- each difference has a weight of the right size
pub weights_by : (places : List Place) (weights : List ℕ) → length weights ≡ length places → list_all (λ w. nat_le 1 w && nat_le w 1000000) weights ≡ true → AreWeights places weights
weights_by places weights one_each e = record {
  one_each = one_each;
  sized = (all_decides (λ w. nat_le 1 w && nat_le w 1000000) (λ w. (1 ≤ w) × (w ≤ 1000000)) sized weights).0 e;
}
  where
    sized : (w : ℕ) → Decides (nat_le 1 w && nat_le w 1000000) ((1 ≤ w) × (w ≤ 1000000))
    sized w = (
      λ b. let parts = and_parts (nat_le 1 w) (nat_le w 1000000) b in (leb-true 1 w parts.0, leb-true w 1000000 parts.1),
      λ bounds. and_from (nat_le 1 w) (nat_le w 1000000) (le-leb 1 w bounds.0) (le-leb w 1000000 bounds.1),
    )

-- a task of two models is posed
pub posed_by : (words : Vocabulary) (planner user : Model) (places : List Place) (weights : List ℕ) (plan : List GroundAction) → are_differences words planner user places ≡ true
    → length weights ≡ length places → list_all (λ w. nat_le 1 w && nat_le w 1000000) weights ≡ true → IsPosed (task_of words planner user places weights plan)
posed_by words planner user places weights plan e one_each sized = record { differences = differences_by words planner user places e; weights = weights_by places weights one_each sized }

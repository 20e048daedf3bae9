-- How the map of printed forms grows, and what its entries are.
use Rattle.std.proofs.Common.{◌≡◌, ℕ, ◌+◌, ◌≤◌, Bool, true, false, cond, Some, None, List, [], ◌∷◌, ◌++◌, length, take, drop, map, get_or, refl, sym, ap, subst, ◌∙◌, arith, ⊎_elim, inl, inr}
use Rattle.std.specs.Prelude.{slice_get, if◌then◌else◌, All, AllPairs, Contains}
use Rattle.std.specs.Ordering.{nat_cmp, is_eq}
use Rattle.std.specs.declared.cmp.Ordering.{Ordering}
use Rattle.std.specs.declared.cmp.Ordering.TheVariants.{Less}
use Rattle.std.specs.Cmp.Lexicographic.{slice_cmp}
use Rattle.std.specs.BTreeMap.{BTreeMap, Updates, get, is_at}
use Rattle.std.specs.Map.{lookup, keys_of}
use Rattle.std.specs.List.{AllByRecursion}
use Rattle.std.specs.List.Sorted.{IsStrictlySortedBy}
use Rattle.std.proofs.lemmas.Bool.{cases_Bool}
use Rattle.std.proofs.lemmas.Cmp.{nat_list_cmp_total}
use Rattle.std.proofs.lemmas.List.{length-map, take-append-drop, take_all}
use Rattle.std.proofs.lemmas.List.Elements.{All-nil, All-cons, All-map, All-contains, Contains-append_left, Contains-push, Contains-push_cases}
use Rattle.std.proofs.lemmas.List.Kept.{AllPairs-cons}
use Rattle.std.proofs.lemmas.Map.Entries.{btree_map_get_place, place_from_lookup}
use Rattle.std.proofs.lemmas.Map.Keys.{sorted_head, sorted_tail}
use Rattle.std.proofs.lemmas.Map.Text.{is_eq-slice_cmp}
use Rattle.std.proofs.lemmas.Option.{slice_get-get_or}
use Rattle.std.proofs.lemmas.Slice.Eq.{bytes_eq-Decides}
use Rattle.mre_base.proofs.Loops.{take_item}
use Rattle.model_kit.specs.Differences.{IsPrintedBefore}
use Rattle.ground_core.specs.declared.ordering.InOrder.{InOrder}
use Rattle.ground_core.specs.Ordered.{IsIndexOf, IsIndex, IsLaidOut, IsInOrder}
use Rattle.mre_base.proofs.Listed.{item_contained, map_same, map-contains, contains-map}
use Rattle.mre_base.proofs.Options.{same_some}

abbrev pub text_cmp : List ℕ → List ℕ → Ordering
text_cmp = slice_cmp nat_cmp

-- texts that tie are equal
pub tie_same : (key name : List ℕ) → is_eq (text_cmp key name) ≡ true → key ≡ name
tie_same key name tie = (bytes_eq-Decides key name).0 (sym (is_eq-slice_cmp key name) ∙ tie)

pub same_tie : (key name : List ℕ) → key ≡ name → is_eq (text_cmp key name) ≡ true
same_tie key name same = is_eq-slice_cmp key name ∙ (bytes_eq-Decides key name).1 same

module _ {X : Type 0} (form : X → List ℕ) where
  -- nothing is there before the first thing
  pub index_none : (things : List X) (index : BTreeMap (List ℕ) X) → index.entries ≡ [] → IsIndexOf form 0 (Contains (take 0 things)) index
  index_none things index none = record {
    each = λ name x is. let no : None ≡ Some x = sym (found name) ∙ is in absurd (cc);
    all = λ x at. absurd (omega (arith, at.1));
    few = omega (arith, ap length none);
  }
    where
      found : (name : List ℕ) → get text_cmp index name ≡ None
      found name = ap (λ es. lookup (is_at (text_cmp name)) es) none

  module _ (Fits : X → Type 0) (apart : (x y : X) → Fits x → Fits y → form x ≡ form y → x ≡ y) (things : List X) (fit : All Fits things) (i : ℕ) (x : X) (at : slice_get things i ≡ Some x) where
    listed : (y : X) → Contains (take (i + 1) things) y → Contains things y
    listed y there = subst (λ list. Contains list y) (take-append-drop (i + 1) things) (Contains-append_left (take (i + 1) things) (drop (i + 1) things) y there)

    -- one more thing
    pub index_more : (old new : BTreeMap (List ℕ) X) (key : List ℕ) (thing : X) → key ≡ form x → thing ≡ x → IsIndexOf form i (Contains (take i things)) old → Updates text_cmp old new key (Some thing)
        → length new.entries ≤ length old.entries + 1 → IsIndexOf form (i + 1) (Contains (take (i + 1) things)) new
    index_more old new key thing key_is thing_is before updates count = record {
      each = each;
      all = all;
      few = let few = before.few in omega (arith, few, count);
    }
      where
        split : take (i + 1) things ≡ take i things ++ x ∷ []
        split = take_item things i x at

        x_there : Contains (take (i + 1) things) x
        x_there = subst (λ list. Contains list x) (sym split) (Contains-push (take i things) x)

        hit : (name : List ℕ) → key ≡ name → get text_cmp new name ≡ Some thing
        hit name same = updates.0 name ∙ ap (λ b. cond b (Some thing) (get text_cmp old name)) (same_tie key name same)

        miss : (name : List ℕ) → is_eq (text_cmp key name) ≡ false → get text_cmp new name ≡ get text_cmp old name
        miss name none = updates.0 name ∙ ap (λ b. cond b (Some thing) (get text_cmp old name)) none

        each : (name : List ℕ) (y : X) → get text_cmp new name ≡ Some y → Contains (take (i + 1) things) y × (form y ≡ name)
        each name y is =
            ⊎_elim
            (λ tie.
            let same = tie_same key name tie in
            let one : x ≡ y = sym thing_is ∙ same_some thing y (sym (hit name same) ∙ is) in
            (subst (Contains (take (i + 1) things)) one x_there, ap form (sym one) ∙ sym key_is ∙ same))
            (λ none.
            let (there, named) = before.each name y (sym (miss name none) ∙ is) in
            (subst (λ list. Contains list y) (sym split) (Contains-append_left (take i things) (x ∷ []) y there), named))
            (cases_Bool (is_eq (text_cmp key name)))

        all : (y : X) → Contains (take (i + 1) things) y → get text_cmp new (form y) ≡ Some y
        all y there = elim (Contains-push_cases (take i things) x y (subst (λ list. Contains list y) split there)) [
          | inr same ↦ hit (form y) (key_is ∙ ap form same) ∙ ap Some (thing_is ∙ same)
          | inl earlier ↦
              ⊎_elim
              (λ tie.
              let same = tie_same key (form y) tie in
              let one : x ≡ y = apart x y (All-contains Fits things x fit (listed x x_there)) (All-contains Fits things y fit (listed y there)) (sym key_is ∙ same) in
              hit (form y) same ∙ ap Some (thing_is ∙ one))
              (λ none. miss (form y) none ∙ before.all y earlier)
              (cases_Bool (is_eq (text_cmp key (form y))))
        ]

  -- ---- the entries
  ascending : (es : List (List ℕ × X)) → IsStrictlySortedBy text_cmp (keys_of es) → AllPairs IsPrintedBefore (map (λ e. e.0) es)
  ascending [] sorted = λ i j d lt within. absurd (omega arith)
  ascending (e ∷ es) sorted =
      AllPairs-cons IsPrintedBefore e.0 (map (λ f. f.0) es) (All-map (IsPrintedBefore e.0) (λ f. f.0) es (before es (sorted_head text_cmp e.0 (keys_of es) sorted))) (ascending es (sorted_tail text_cmp e.0 (keys_of es) sorted))
    where
      before : (rest : List (List ℕ × X)) → AllByRecursion (λ k. text_cmp e.0 k ≡ Less) (keys_of rest) → All (λ f. IsPrintedBefore e.0 f.0) rest
      before [] all = All-nil (λ f. IsPrintedBefore e.0 f.0)
      before (f ∷ rest) all = All-cons (λ g. IsPrintedBefore e.0 g.0) f rest all.0 (before rest all.1)

  pub laid_in_order : (things : List X) (index : BTreeMap (List ℕ) X) (made : InOrder X) → IsIndex form things index → IsLaidOut index made → IsInOrder form things made
  laid_in_order things index made is laid = record {
    named = laid.names ∙ map_same (λ e. e.0) (λ e. form e.1) index.entries entries_named ∙ sym (mapped_twice index.entries) ∙ ap (map form) (sym laid.things);
    ascend = subst (AllPairs IsPrintedBefore) (sym laid.names) (ascending index.entries laid.ordered);
    same = λ x. (to x, from x);
    few = let few = is.few in let same = ap length laid.things ∙ length-map index.entries (λ e. e.1) in omega (arith, same, few);
  }
    where
      entry_is : (k : ℕ) (e : List ℕ × X) → slice_get index.entries k ≡ Some e → Contains things e.1 × (form e.1 ≡ e.0)
      entry_is k e at = is.each e.0 e.1 (btree_map_get_place nat_list_cmp_total index k e.0 e.1 laid.ordered at)

      entries_named : All (λ (e : List ℕ × X). e.0 ≡ form e.1) index.entries
      entries_named k d lt = sym (entry_is k (get_or index.entries k d) (slice_get-get_or index.entries k d lt)).1

      mapped_twice : (es : List (List ℕ × X)) → map form (map (λ e. e.1) es) ≡ map (λ e. form e.1) es
      mapped_twice [] = refl
      mapped_twice (e ∷ es) = ap (λ rest. form e.1 ∷ rest) (mapped_twice es)

      to : (x : X) → Contains made.things x → Contains things x
      to x there =
          let (e, (k, lt, here), same) = contains-map (λ (e : List ℕ × X). e.1) index.entries x (subst (λ list. Contains list x) laid.things there) in
          subst (Contains things) same (entry_is k e (slice_get-get_or index.entries k e lt ∙ ap Some here)).0

      from : (x : X) → Contains things x → Contains made.things x
      from x there =
          let at = place_from_lookup (is_at (text_cmp (form x))) index.entries x (is.all x there) in
          subst (λ list. Contains list x) (sym laid.things) (map-contains (λ (e : List ℕ × X). e.1) index.entries (at.1, x) (item_contained index.entries at.0 (at.1, x) at.2))

-- an insertion adds at most one entry
pub one_more : (new old : ℕ) (was : Bool) → new ≡ old + (if was then 0 else 1) → new ≤ old + 1
one_more new old true is = omega (arith, is)
one_more new old false is = omega (arith, is)

-- the first things, up to the length of the list, are all things
pub index_whole : {X : Type 0} (form : X → List ℕ) (things : List X) (i : ℕ) (index : BTreeMap (List ℕ) X) → i ≡ length things → IsIndexOf form i (Contains (take i things)) index → IsIndex form things index
index_whole form things i index is before =
    subst (λ list. IsIndexOf form (length things) (Contains list) index) (take_all (length things) things (omega arith)) (subst (λ n. IsIndexOf form n (Contains (take n things)) index) is before)

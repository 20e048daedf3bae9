-- Entries that go to the end unless they were seen before are the first entries of a list.
use Rattle.std.proofs.Common.{◌≡◌, ℕ, ◌||◌, ◌&&◌, Bool, true, false, cond, ◌+◌, Some, List, [], ◌∷◌, ◌++◌, drop, refl, sym, ap, ◌∙◌, append_assoc}
use Rattle.std.specs.Prelude.{◌==◌, not, fold, filter, slice_get}
use Rattle.std.specs.List.{list_any}
use Rattle.std.specs.Cmp.Lexicographic.{pointwise, slice_cmp, texts_ties}
use Rattle.std.specs.Ordering.{nat_cmp}
use Rattle.std.specs.BTreeSet.{Updates}
use Rattle.std.proofs.lemmas.Bool.{true≢false}
use Rattle.std.proofs.lemmas.List.{append-nil}
use Rattle.std.proofs.lemmas.List.Folds.{list_any-append}
use Rattle.model_kit.specs.declared.atom.SchemaAtom.{SchemaAtom}
use Rattle.model_kit.specs.declared.atom.Term.{Term}
use Rattle.model_kit.specs.declared.atom.Term.TheVariants.{Param, Object}
use Rattle.model_kit.specs.Same.{same_numbers, same_term, same_schema_atom}
use Rattle.model_kit.proofs.Alike.{same_numbers-decides, same_schema_atom-decides}
use Rattle.mre_base.proofs.Loops.{drop_item}
use Rattle.pddl_models.specs.declared.unrepeated.Seen.{Seen}
use Rattle.pddl_models.specs.Unrepeated.{with_first, same_by, term_key, terms_key, schema_atom_key, has_key, AreSeen}
use Rattle.pddl_vocabulary.specs.Values.{firsts}

-- ---- numbers that were seen

either_way : (b c : Bool) → cond b true c ≡ (b || c)
either_way true c = refl
either_way false c = refl

-- an insertion adds the numbers of its key
pub has_key-insert : (old new : Seen) (numbers : List ℕ) → Updates (slice_cmp nat_cmp) old.keys new.keys numbers true
    → (other : List ℕ) → has_key new other ≡ (same_numbers numbers other || has_key old other)
has_key-insert old new numbers updates other =
    updates.0 other
    ∙ ap (λ b. cond b true (has_key old other)) (sym (texts_ties numbers other))
    ∙ either_way (same_numbers numbers other) (has_key old other)

module _ {X : Type 0} (key_of : X → List ℕ) (made : List X) (entry : X) (old new : Seen) (before : AreSeen key_of made old)
    (added : (other : List ℕ) → has_key new other ≡ (same_numbers (key_of entry) other || has_key old other)) where
  now : (other : List ℕ) → has_key new other ≡ (same_numbers (key_of entry) other || list_any (λ x. same_numbers (key_of x) other) made)
  now other = added other ∙ ap (λ b. same_numbers (key_of entry) other || b) (before other)

  turn : (a b : Bool) → (a || b) ≡ (b || (a || false))
  turn true true = refl
  turn true false = refl
  turn false true = refl
  turn false false = refl

  pub seen_more : AreSeen key_of (made ++ entry ∷ []) new
  seen_more other =
      now other
      ∙ turn (same_numbers (key_of entry) other) (list_any (λ x. same_numbers (key_of x) other) made)
      ∙ sym (list_any-append (λ x. same_numbers (key_of x) other) made (entry ∷ []))

  pub seen_same : has_key old (key_of entry) ≡ true → AreSeen key_of made new
  seen_same had other = now other ∙ by (same_numbers (key_of entry) other) refl
    where
      by : (b : Bool) → same_numbers (key_of entry) other ≡ b → (b || list_any (λ x. same_numbers (key_of x) other) made) ≡ list_any (λ x. same_numbers (key_of x) other) made
      by true is =
          let same : key_of entry ≡ other = (same_numbers-decides (key_of entry) other).0 is in
          sym (sym (before other) ∙ ap (has_key old) (sym same) ∙ had)
      by false is = refl

-- ---- numbers distinguish terms and atoms

terms_key-same : (ss ts : List Term) → same_numbers (terms_key ss) (terms_key ts) ≡ pointwise same_term ss ts
terms_key-same [] [] = refl
terms_key-same [] (Param i ∷ ts) = refl
terms_key-same [] (Object i ∷ ts) = refl
terms_key-same (Param i ∷ ss) [] = refl
terms_key-same (Object i ∷ ss) [] = refl
terms_key-same (Param i ∷ ss) (Param j ∷ ts) = ap (λ b. (i == j) && b) (terms_key-same ss ts)
terms_key-same (Object i ∷ ss) (Object j ∷ ts) = ap (λ b. (i == j) && b) (terms_key-same ss ts)
terms_key-same (Param i ∷ ss) (Object j ∷ ts) = refl
terms_key-same (Object i ∷ ss) (Param j ∷ ts) = refl

pub schema_atom_key-same : (a b : SchemaAtom) → same_by schema_atom_key a b ≡ same_schema_atom a b
schema_atom_key-same a b = ap (λ c. (a.predicate == b.predicate) && c) (terms_key-same a.args b.args)

-- ---- the first entries, one by one

pub same_by-trans : {X : Type 0} (key_of : X → List ℕ) (x y z : X) → same_by key_of x y ≡ true → same_by key_of y z ≡ true → same_by key_of x z ≡ true
same_by-trans key_of x y z p q =
    (same_numbers-decides (key_of x) (key_of z)).1 ((same_numbers-decides (key_of x) (key_of y)).0 p ∙ (same_numbers-decides (key_of y) (key_of z)).0 q)

filter_by : {X : Type 0} (p : X → Bool) (x : X) (ys zs : List X) → filter p ys ≡ zs → (b : Bool) → filter p (cond b (x ∷ ys) ys) ≡ cond (b && p x) (x ∷ zs) zs
filter_by p x ys zs rest true = ap (λ us. cond (p x) (x ∷ us) us) rest
filter_by p x ys zs rest false = rest

filter-both : {X : Type 0} (p q : X → Bool) (xs : List X) → filter p (filter q xs) ≡ filter (λ x. q x && p x) xs
filter-both p q [] = refl
filter-both p q (x ∷ xs) = filter_by p x (filter q xs) (filter (λ y. q y && p y) xs) (filter-both p q xs) (q x)

filter-like : {X : Type 0} (p q : X → Bool) → ((x : X) → p x ≡ q x) → (xs : List X) → filter p xs ≡ filter q xs
filter-like p q like xs = ap (λ t. filter t xs) (λ i x. like x i)

module _ {X : Type 0} (same : X → X → Bool) (trans : (x y z : X) → same x y ≡ true → same y z ≡ true → same x z ≡ true) where
  -- no entry so far is the same
  abbrev is_new : List X → X → Bool
  is_new so_far z = not (list_any (λ y. same y z) so_far)

  or_true : (b : Bool) → (b || true) ≡ true
  or_true true = refl
  or_true false = refl

  any_by : (y x z : X) (c d : Bool) → same x z ≡ true → (c ≡ true → d ≡ true) → (b : Bool) → same y x ≡ b → (b || c) ≡ true → (same y z || d) ≡ true
  any_by y x z c d is rest true here had = ap (λ b. b || d) (trans y x z here is)
  any_by y x z c d is rest false here had = ap (λ b. same y z || b) (rest had) ∙ or_true (same y z)

  any_trans : (so_far : List X) (x z : X) → list_any (λ y. same y x) so_far ≡ true → same x z ≡ true → list_any (λ y. same y z) so_far ≡ true
  any_trans [] x z had is = absurd (true≢false (sym had))
  any_trans (y ∷ so_far) x z had is =
      any_by y x z (list_any (λ v. same v x) so_far) (list_any (λ v. same v z) so_far) is (λ more. any_trans so_far x z more is) (same y x) refl had

  old_by : (so_far : List X) (x z : X) → list_any (λ y. same y x) so_far ≡ true → (b c : Bool) → same x z ≡ b → list_any (λ y. same y z) so_far ≡ c → (not b && not c) ≡ not c
  old_by so_far x z had true true is any = refl
  old_by so_far x z had true false is any = absurd (true≢false (sym (any_trans so_far x z had is) ∙ any))
  old_by so_far x z had false c is any = refl

  new_by : (a b : Bool) → (not b && not a) ≡ not (a || (b || false))
  new_by true true = refl
  new_by true false = refl
  new_by false true = refl
  new_by false false = refl

  abbrev FoldsFrom : List X → List X → Type 0
  FoldsFrom xs so_far = fold (with_first same) so_far xs ≡ so_far ++ filter (is_new so_far) (firsts same xs)

  fold_by : (x : X) (xs so_far : List X) → FoldsFrom xs so_far → FoldsFrom xs (so_far ++ x ∷ []) → (b : Bool) → list_any (λ y. same y x) so_far ≡ b
      → fold (with_first same) (cond b so_far (so_far ++ x ∷ [])) xs
      ≡ so_far ++ cond (not b) (x ∷ filter (is_new so_far) (filter (λ y. not (same x y)) (firsts same xs))) (filter (is_new so_far) (filter (λ y. not (same x y)) (firsts same xs)))
  fold_by x xs so_far old new true had =
      old
      ∙ ap (λ ys. so_far ++ ys)
      (sym (filter-both (is_new so_far) (λ y. not (same x y)) (firsts same xs)
      ∙ filter-like (λ y. not (same x y) && is_new so_far y) (is_new so_far) (λ z. old_by so_far x z had (same x z) (list_any (λ y. same y z) so_far) refl refl) (firsts same xs)))
  fold_by x xs so_far old new false had =
      new
      ∙ append_assoc so_far (x ∷ []) (filter (is_new (so_far ++ x ∷ [])) (firsts same xs))
      ∙ ap (λ ys. so_far ++ x ∷ ys)
      (sym (filter-both (is_new so_far) (λ y. not (same x y)) (firsts same xs)
      ∙ filter-like (λ y. not (same x y) && is_new so_far y) (is_new (so_far ++ x ∷ []))
      (λ z. new_by (list_any (λ y. same y z) so_far) (same x z) ∙ ap not (sym (list_any-append (λ y. same y z) so_far (x ∷ [])))) (firsts same xs)))

  fold_from : (xs so_far : List X) → FoldsFrom xs so_far
  fold_from [] so_far = sym (append-nil so_far)
  fold_from (x ∷ xs) so_far = fold_by x xs so_far (fold_from xs so_far) (fold_from xs (so_far ++ x ∷ [])) (list_any (λ y. same y x) so_far) refl

  filter-all : (xs : List X) → filter (is_new []) xs ≡ xs
  filter-all [] = refl
  filter-all (x ∷ xs) = ap (λ ys. x ∷ ys) (filter-all xs)

  pub fold-firsts : (xs : List X) → fold (with_first same) [] xs ≡ firsts same xs
  fold-firsts xs = fold_from xs [] ∙ filter-all (firsts same xs)

-- ---- the numbers of terms, one by one

key_step : (term : Term) (more : List ℕ) → term_key term [] ++ more ≡ term_key term more
key_step (Param i) more = refl
key_step (Object i) more = refl

pub terms_key-more : (old new : List ℕ) (term : Term) (terms : List Term) (place : ℕ) (all : List ℕ) → slice_get terms place ≡ Some term
    → new ≡ old ++ term_key term [] → old ++ terms_key (drop place terms) ≡ all → new ++ terms_key (drop (place + 1) terms) ≡ all
terms_key-more old new term terms place all at puts before =
    ap (λ ks. ks ++ terms_key (drop (place + 1) terms)) puts
    ∙ append_assoc old (term_key term []) (terms_key (drop (place + 1) terms))
    ∙ ap (λ ks. old ++ ks) (key_step term (terms_key (drop (place + 1) terms)))
    ∙ sym (ap (λ ts. old ++ terms_key ts) (drop_item terms place term at))
    ∙ before

pub is_old : (b : Bool) → not b ≡ false → b ≡ true
is_old true is = refl
is_old false is = absurd (true≢false is)

-- ---- at the start nothing was seen

pub seen_none : {X : Type 0} (key_of : X → List ℕ) (made : List X) (seen : Seen) → made ≡ [] → ((numbers : List ℕ) → has_key seen numbers ≡ false) → AreSeen key_of made seen
seen_none key_of made seen is none numbers = none numbers ∙ sym (ap (list_any (λ x. same_numbers (key_of x) numbers)) is)

pub fold_start : {X : Type 0} (same : X → X → Bool) → ((x y z : X) → same x y ≡ true → same y z ≡ true → same x z ≡ true)
    → (made xs : List X) → made ≡ [] → fold (with_first same) made xs ≡ firsts same xs
fold_start same trans made xs is = ap (λ ys. fold (with_first same) ys xs) is ∙ fold-firsts same trans xs

pub same_schema-trans : (a b c : SchemaAtom) → same_schema_atom a b ≡ true → same_schema_atom b c ≡ true → same_schema_atom a c ≡ true
same_schema-trans a b c p q = (same_schema_atom-decides a c).1 ((same_schema_atom-decides a b).0 p ∙ (same_schema_atom-decides b c).0 q)

pub with_same : (made : List SchemaAtom) (x : SchemaAtom) → with_first (same_by schema_atom_key) made x ≡ with_first same_schema_atom made x
with_same made x = ap (λ same. with_first same made x) (λ i a b. schema_atom_key-same a b i)

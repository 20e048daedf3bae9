-- The first entry of each name: one more entry, and where an entry is the first of its name.
use Rattle.std.proofs.Common.{◌≡◌, ℕ, ◌+◌, ◌||◌, suc, Bool, true, false, cond, Some, None, Option, List, [], ◌∷◌, ◌++◌, length, take, drop, refl, sym, ap, ◌∙◌, append-nil, append_assoc, arith}
use Rattle.std.specs.Prelude.{not, ◌==◌, slice_get, filter}
use Rattle.std.specs.List.{list_any, position_from}
use Rattle.std.specs.Option.{is_some}
use Rattle.std.specs.Str.{bytes_eq}
use Rattle.std.proofs.lemmas.Bool.{true≢false, eqb-true, eq-eqb, false_from_ne_true}
use Rattle.std.proofs.lemmas.List.{length-take, take-append-drop}
use Rattle.std.proofs.lemmas.List.Elements.{filter-append}
use Rattle.std.proofs.lemmas.Option.{slice_get_within}
use Rattle.model_kit.proofs.Alike.{same_numbers-decides}
use Rattle.mre_base.proofs.Loops.{take_item, drop_item}
use Rattle.pddl_names.specs.declared.names.NameTable.{NameTable}
use Rattle.pddl_names.specs.Naming.{is_none}
use Rattle.pddl_names.specs.Numbers.{number_in}
use Rattle.pddl_vocabulary.specs.Values.{firsts}
use Rattle.pddl_vocabulary.specs.VocabularyFirsts.{same_by, is_place}

-- the item, where the test doesn't pass
abbrev pub unless : {X : Type 0} → Bool → X → List X
unless b x = cond b [] (x ∷ [])

module _ {X : Type 0} (same : X → X → Bool) where
  kept_by : (a b : Bool) (y x : X) → same y x ≡ b → filter (λ z. not (same y z)) (unless a x) ≡ unless (b || a) x
  kept_by true true y x is = refl
  kept_by true false y x is = refl
  kept_by false true y x is = ap (λ c. cond (not c) (x ∷ []) []) is
  kept_by false false y x is = ap (λ c. cond (not c) (x ∷ []) []) is

  pub firsts_push : (xs : List X) (x : X) → firsts same (xs ++ x ∷ []) ≡ firsts same xs ++ unless (list_any (λ y. same y x) xs) x
  firsts_push [] x = refl
  firsts_push (y ∷ xs) x =
      ap (λ l. y ∷ filter (λ z. not (same y z)) l) (firsts_push xs x)
      ∙ ap (λ l. y ∷ l) (filter-append (λ z. not (same y z)) (firsts same xs) (unless (list_any (λ z. same z x) xs) x))
      ∙ ap (λ l. y ∷ (filter (λ z. not (same y z)) (firsts same xs) ++ l)) (kept_by (list_any (λ z. same z x) xs) (same y x) y x refl)

-- ---- the first place

is_zero : (i n : ℕ) → (i == i + suc n) ≡ false
is_zero i n = false_from_ne_true (i == i + suc n) (λ e. let same = eqb-true i (i + suc n) e in omega (arith, same))

first_by : {X : Type 0} (t : X → Bool) (c : Bool) (i n : ℕ) (later : Option ℕ) (any : Bool) → is_place later (i + 1 + n) ≡ not any
    → is_place (cond c (Some i) later) (i + suc n) ≡ not (c || any)
first_by t true i n later any e = is_zero i n
first_by t false i n later any e = let grows : i + suc n ≡ i + 1 + n = omega arith in ap (is_place later) grows ∙ e

first_from : {X : Type 0} (t : X → Bool) (before : List X) (x : X) (rest : List X) (i : ℕ) → t x ≡ true
    → is_place (position_from t i (before ++ x ∷ rest)) (i + length before) ≡ not (list_any t before)
first_from t [] x rest i is = ap (λ c. is_place (cond c (Some i) (position_from t (i + 1) rest)) (i + 0)) is ∙ eq-eqb i (i + 0) (omega arith)
first_from t (b ∷ before) x rest i is =
    first_by t (t b) i (length before) (position_from t (i + 1) (before ++ x ∷ rest)) (list_any t before) (first_from t before x rest (i + 1) is)

module _ {X : Type 0} (name_of : X → List ℕ) (xs : List X) (place : ℕ) (x : X) (at : slice_get xs place ≡ Some x) where
  abbrev named : X → Bool
  named e = bytes_eq (name_of e) (name_of x)

  split : xs ≡ take place xs ++ x ∷ drop (place + 1) xs
  split = sym (take-append-drop place xs) ∙ ap (λ l. take place xs ++ l) (drop_item xs place x at)

  long : length (take place xs) ≡ place
  long = let lt = slice_get_within xs place x at in let l = length-take place xs in omega (arith, lt, l)

  from_zero : length (take place xs) ≡ 0 + length (take place xs)
  from_zero = omega arith

  pub first_here : is_place (position_from named 0 xs) place ≡ not (list_any named (take place xs))
  first_here =
      ap (λ l. is_place (position_from named 0 l) place) split
      ∙ ap (is_place (position_from named 0 (take place xs ++ x ∷ drop (place + 1) xs))) (sym long ∙ from_zero)
      ∙ first_from named (take place xs) x (drop (place + 1) xs) 0 ((same_numbers-decides (name_of x) (name_of x)).1 refl)

  pub firsts_item : (old new : List X) (first : Bool) → first ≡ is_place (position_from named 0 xs) place → old ≡ firsts (same_by name_of) (take place xs)
      → new ≡ old ++ cond first (x ∷ []) [] → new ≡ firsts (same_by name_of) (take (place + 1) xs)
  firsts_item old new first is before made =
      made
      ∙ (λ i. before i ++ cond (is i) (x ∷ []) [])
      ∙ ap (λ b. firsts (same_by name_of) (take place xs) ++ cond b (x ∷ []) []) first_here
      ∙ ap (λ l. firsts (same_by name_of) (take place xs) ++ l) (turned (list_any named (take place xs)))
      ∙ sym (firsts_push (same_by name_of) (take place xs) x)
      ∙ ap (firsts (same_by name_of)) (sym (take_item xs place x at))
    where
      turned : (b : Bool) → cond (not b) (x ∷ []) [] ≡ unless b x
      turned true = refl
      turned false = refl

-- ---- what is filtered in a loop

module _ {X : Type 0} (old new : List X) (x : X) (b : Bool) where
  -- an item that passes was put at the end
  pub put_new : (made : X) → b ≡ true → new ≡ old ++ made ∷ [] → made ≡ x → new ≡ old ++ cond b (x ∷ []) []
  put_new made is pushed same = pushed ∙ (λ i. old ++ same i ∷ []) ∙ ap (λ c. old ++ cond c (x ∷ []) []) (sym is)

  -- an item that doesn't was left out
  pub kept_old : b ≡ false → new ≡ old → new ≡ old ++ cond b (x ∷ []) []
  kept_old is same = same ∙ sym (append-nil old) ∙ ap (λ c. old ++ cond c (x ∷ []) []) (sym is)

filter_one : {X : Type 0} (p : X → Bool) (x : X) (b : Bool) → p x ≡ b → filter p (x ∷ []) ≡ cond b (x ∷ []) []
filter_one p x b is = ap (λ c. cond c (x ∷ []) []) is

pub filter_item : {X : Type 0} (p : X → Bool) (xs : List X) (place : ℕ) (x : X) → slice_get xs place ≡ Some x → (front old new : List X) (b : Bool) → p x ≡ b
    → old ≡ front ++ filter p (take place xs) → new ≡ old ++ cond b (x ∷ []) [] → new ≡ front ++ filter p (take (place + 1) xs)
filter_item p xs place x at front old new b is before made =
    made
    ∙ ap (λ l. l ++ cond b (x ∷ []) []) before
    ∙ append_assoc front (filter p (take place xs)) (cond b (x ∷ []) [])
    ∙ ap (λ l. front ++ (filter p (take place xs) ++ l)) (sym (filter_one p x b is))
    ∙ ap (λ l. front ++ l) (sym (filter-append p (take place xs) (x ∷ [])) ∙ ap (filter p) (sym (take_item xs place x at)))

none_by : (c : Bool) (i : ℕ) (later : Option ℕ) (any : Bool) → is_none later ≡ not any → is_none (cond c (Some i) later) ≡ not (c || any)
none_by true i later any e = refl
none_by false i later any e = e

pub position_none : {X : Type 0} (t : X → Bool) (i : ℕ) (xs : List X) → is_none (position_from t i xs) ≡ not (list_any t xs)
position_none t i [] = refl
position_none t i (x ∷ xs) = none_by (t x) i (position_from t (i + 1) xs) (list_any t xs) (position_none t (i + 1) xs)

-- a number that isn't there
pub none_so : {X : Type 0} (o : Option X) (b : Bool) → is_some o ≡ not b → b ≡ is_none o
none_so None true e = refl
none_so None false e = absurd (true≢false (sym e))
none_so (Some x) true e = absurd (true≢false e)
none_so (Some x) false e = refl

-- whether the number of a name in a table is this place, by the number that it is due to have
pub told_by : (table : NameTable) (name own : List ℕ) (due : Option ℕ) (place : ℕ) (told : Bool) → told ≡ is_place (number_in table name) place → name ≡ own → number_in table own ≡ due
    → told ≡ is_place due place
told_by table name own due place told is same has = is ∙ ap (λ n. is_place (number_in table n) place) same ∙ ap (λ o. is_place o place) has

-- Lists that a function makes of others, and entries that it renames.
use Rattle.std.proofs.Common.{◌≡◌, ℕ, ◌+◌, ◌-◌, ◌<◌, zero, suc, Bool, true, cond, List, [], ◌∷◌, ◌++◌, length, get_or, map, Some, refl, sym, ap, subst, ◌∙◌, arith, ⊎_elim}
use Rattle.std.specs.Prelude.{◌≢◌, All, AllPairs, filter, slice_get, slice_index}
use Rattle.std.specs.Option.{option_map}
use Rattle.std.specs.Cmp.Lexicographic.{pointwise}
use Rattle.std.proofs.lemmas.Bool.{true≢false, cases_Bool, cases_lt, and_parts, and_from}
use Rattle.std.proofs.lemmas.List.{get_or-map, length-map, length-append, get_or_append_left, get_or-append_right}
use Rattle.std.specs.List.{range_with_len}
use Rattle.std.proofs.lemmas.List.{map-id}
use Rattle.std.proofs.lemmas.List.FromFn.{get_or-range_with_len, length-range_with_len, filter_of_map_range_with_len_more}
use Rattle.std.proofs.lemmas.Option.{slice_get-map, get_or_from_slice_get, slice_get-get_or}
use Rattle.model_kit.specs.declared.vocabulary.Signature.{Signature}
use Rattle.model_kit.specs.Same.{same_numbers}
use Rattle.model_kit.specs.Pairs.{names, number_of}
use Rattle.model_kit.proofs.Distinct.{ListFacts}
use Rattle.joint_models.specs.Listed.{typed_entry, entry_named}
use Rattle.joint_models.specs.Renaming.{numbers_between}
use Rattle.joint_models.proofs.Entries.{entry_first, entry_later, other_name}
use Rattle.mre_base.proofs.Listed.{item_at}

-- ---- lists

pub map_map : {X Y Z : Type 0} (f : Y → Z) (g : X → Y) (xs : List X) → map f (map g xs) ≡ map (λ x. f (g x)) xs
map_map f g [] = refl
map_map f g (x ∷ xs) = ap (λ rest. f (g x) ∷ rest) (map_map f g xs)

pub apart_append : {X : Type 0} (R : X → X → Type 0) (xs ys : List X) → AllPairs R xs → AllPairs R ys
    → ((i j : ℕ) (d : X) → i < length xs → j < length ys → R (get_or xs i d) (get_or ys j d)) → AllPairs R (xs ++ ys)
apart_append R xs ys one two across i j d less within =
    ⊎_elim
    (λ j_first. let i_first : i < length xs = omega arith in
    subst (λ a. R a (get_or (xs ++ ys) j d)) (sym (get_or_append_left xs ys d i i_first))
    (subst (R (get_or xs i d)) (sym (get_or_append_left xs ys d j j_first)) (one i j d less j_first)))
    (λ j_later. let j_within : j - length xs < length ys = omega (arith, length-append xs ys) in
    subst (R (get_or (xs ++ ys) i d)) (sym (get_or-append_right xs ys (length xs) j d refl j_later))
    (⊎_elim
    (λ i_first. subst (λ a. R a (get_or ys (j - length xs) d)) (sym (get_or_append_left xs ys d i i_first)) (across i (j - length xs) d i_first j_within))
    (λ i_later. subst (λ a. R a (get_or ys (j - length xs) d)) (sym (get_or-append_right xs ys (length xs) i d refl i_later)) (two (i - length xs) (j - length xs) d (omega arith) j_within))
    (cases_lt i (length xs))))
    (cases_lt j (length xs))

-- a function that keeps what the entries are and that they differ
pub list_kept : {X Y : Type 0} (passes : X → Bool) (R : X → X → Type 0) (passes_new : Y → Bool) (S : Y → Y → Type 0) (f : X → Y)
    → ((x : X) → passes x ≡ true → passes_new (f x) ≡ true) → ((x y : X) → passes x ≡ true → passes y ≡ true → S (f x) (f y) → R x y)
    → (xs : List X) → ListFacts passes (λ x y. R x y) xs → ListFacts passes_new (λ x y. S x y) (map f xs)
list_kept {X} {Y} passes R passes_new S f kept apart xs facts = record {
  fit = λ k d lt. let within : k < length xs = rw (← length-map xs f) lt in
      let x = some_of xs k within in
      subst (λ y. passes_new y ≡ true) (sym (get_or-map f xs k x d within)) (kept (get_or xs k x) (facts.fit k x within));
  apart = λ i j d less lt same. let within : j < length xs = rw (← length-map xs f) lt in
      let before : i < length xs = omega arith in
      let x = some_of xs j within in
      facts.apart i j x less within
      (apart (get_or xs i x) (get_or xs j x) (facts.fit i x before) (facts.fit j x within)
      (subst (S (f (get_or xs i x))) (get_or-map f xs j x d within) (subst (λ y. S y (get_or (map f xs) j d)) (get_or-map f xs i x d before) same)));
}
  where
    some_of : (xs : List X) (k : ℕ) → k < length xs → X
    some_of [] k lt = absurd (omega arith)
    some_of (x ∷ xs) k lt = x

pub pointwise_kept : {X Y A B : Type 0} (test : X → Y → Bool) (test_new : A → B → Bool) (f : X → A) (g : Y → B)
    → ((x : X) (y : Y) → test x y ≡ true → test_new (f x) (g y) ≡ true) → (xs : List X) (ys : List Y) → pointwise test xs ys ≡ true → pointwise test_new (map f xs) (map g ys) ≡ true
pointwise_kept test test_new f g kept [] [] fit = refl
pointwise_kept test test_new f g kept [] (y ∷ ys) fit = absurd (true≢false (sym fit))
pointwise_kept test test_new f g kept (x ∷ xs) [] fit = absurd (true≢false (sym fit))
pointwise_kept test test_new f g kept (x ∷ xs) (y ∷ ys) fit =
    let parts = and_parts (test x y) (pointwise test xs ys) fit in
    and_from (test_new (f x) (g y)) (pointwise test_new (map f xs) (map g ys)) (kept x y parts.0) (pointwise_kept test test_new f g kept xs ys parts.1)

-- the item that an item of a mapped list comes from
pub at_mapped : {X Y : Type 0} (f : X → Y) (xs : List X) (n : ℕ) (y : Y) → slice_get (map f xs) n ≡ Some y → (x : X) × (slice_get xs n ≡ Some x) × (f x ≡ y)
at_mapped f [] n y at = absurd (cc)
at_mapped f (x ∷ xs) zero y at = (x, refl, (let is : f x ≡ y = cc in is))
at_mapped f (x ∷ xs) (suc n) y at = at_mapped f xs n y at

-- a function that keeps things apart keeps lists of them apart
pub lists_apart : {X Y : Type 0} (P : X → Type 0) (f : X → Y) → ((x y : X) → P x → P y → f x ≡ f y → x ≡ y) → (xs ys : List X) → All P xs → All P ys → map f xs ≡ map f ys → xs ≡ ys
lists_apart P f inj [] [] p q same = refl
lists_apart P f inj [] (y ∷ ys) p q same = absurd (cc)
lists_apart P f inj (x ∷ xs) [] p q same = absurd (cc)
lists_apart P f inj (x ∷ xs) (y ∷ ys) p q same =
    let first : f x ≡ f y = cc in
    let rest : map f xs ≡ map f ys = cc in
    let here = inj x y (p 0 x (omega arith)) (q 0 y (omega arith)) first in
    let later = lists_apart P f inj xs ys (λ k d lt. p (suc k) d (omega arith)) (λ k d lt. q (suc k) d (omega arith)) rest in
    λ i. here i ∷ later i

pub range_apart : (a n : ℕ) → AllPairs (λ x y. x ≢ y) (range_with_len a n)
range_apart a n i j d less within same =
    let count : j < n = rw (length-range_with_len a n) at within in
    let first : i < n = omega arith in
    omega (arith, get_or-range_with_len a n i d first, get_or-range_with_len a n j d count, same)

pub range_more : (p : ℕ → Bool) (n : ℕ) → filter p (range_with_len 0 (n + 1)) ≡ filter p (range_with_len 0 n) ++ cond (p n) (n ∷ []) []
range_more p n =
    ap (filter p) (sym (map-id (range_with_len 0 (n + 1)))) ∙ filter_of_map_range_with_len_more p (λ k. k) 0 n n (omega arith)
    ∙ ap (λ ks. filter p ks ++ cond (p n) (n ∷ []) []) (map-id (range_with_len 0 n))

-- ---- entries

pub typed_names_are : (es : List (List ℕ × ℕ)) → names (map typed_entry es) ≡ map (λ e. e.0) es
typed_names_are es = map_map (λ s. s.name) typed_entry es

pub entry_append : (xs ys : List Signature) (name : List ℕ) (s : Signature) → entry_named xs name ≡ Some s → entry_named (xs ++ ys) name ≡ Some s
entry_append [] ys name s at = absurd (cc)
entry_append (x ∷ xs) ys name s at =
    ⊎_elim
    (λ hit. entry_first x (xs ++ ys) name hit ∙ sym (entry_first x xs name hit) ∙ at)
    (λ miss. entry_later x (xs ++ ys) name miss ∙ entry_append xs ys name s (sym (entry_later x xs name miss) ∙ at))
    (cases_Bool (same_numbers name x.name))

pub entry_after : (xs ys : List Signature) (name : List ℕ) → ((n : ℕ) (s : Signature) → slice_get xs n ≡ Some s → s.name ≢ name) → entry_named (xs ++ ys) name ≡ entry_named ys name
entry_after [] ys name none = refl
entry_after (x ∷ xs) ys name none =
    entry_later x (xs ++ ys) name (other_name x name (none 0 x refl)) ∙ entry_after xs ys name (λ n s at. none (suc n) s at)

-- of the entries whose names pass a test
pub entry_passing : (test : List ℕ → Bool) (ss : List Signature) (name : List ℕ) → test name ≡ true → entry_named (filter (λ s. test s.name) ss) name ≡ entry_named ss name
entry_passing test [] name passes = refl
entry_passing test (x ∷ ss) name passes =
    ⊎_elim
    (λ yes. ap (λ b. entry_named (cond b (x ∷ filter (λ s. test s.name) ss) (filter (λ s. test s.name) ss)) name) yes
    ∙ ⊎_elim
    (λ hit. entry_first x (filter (λ s. test s.name) ss) name hit ∙ sym (entry_first x ss name hit))
    (λ miss. entry_later x (filter (λ s. test s.name) ss) name miss ∙ entry_passing test ss name passes ∙ sym (entry_later x ss name miss))
    (cases_Bool (same_numbers name x.name)))
    (λ no. ap (λ b. entry_named (cond b (x ∷ filter (λ s. test s.name) ss) (filter (λ s. test s.name) ss)) name) no
    ∙ entry_passing test ss name passes
    ∙ sym (entry_later x ss name (other_name x name (λ is. true≢false (sym (ap test is ∙ passes) ∙ no)))))
    (cases_Bool (test x.name))

-- entries with other types under the same names
pub entry_retyped : (retype : Signature → Signature) → ((s : Signature) → (retype s).name ≡ s.name) → (ss : List Signature) (name : List ℕ) (s : Signature) → entry_named ss name ≡ Some s → entry_named (map retype ss) name ≡ Some (retype s)
entry_retyped retype keeps [] name s at = absurd (cc)
entry_retyped retype keeps (x ∷ ss) name s at =
    ⊎_elim
    (λ hit. let here : Some x ≡ Some s = sym (entry_first x ss name hit) ∙ at in
    let is : x ≡ s = cc in
    entry_first (retype x) (map retype ss) name (ap (same_numbers name) (keeps x) ∙ hit) ∙ ap (λ t. Some (retype t)) is)
    (λ miss. entry_later (retype x) (map retype ss) name (ap (same_numbers name) (keeps x) ∙ miss) ∙ entry_retyped retype keeps ss name s (sym (entry_later x ss name miss) ∙ at))
    (cases_Bool (same_numbers name x.name))

-- the number in the list of new numbers
pub number_between : (es fs : List Signature) (n : ℕ) (s : Signature) → slice_get es n ≡ Some s → slice_index (numbers_between es fs) n ≡ number_of (names fs) s.name
number_between es fs n s at =
    get_or_from_slice_get (numbers_between es fs) n (number_of (names fs) s.name) 0
    (slice_get-map (λ t. number_of (names fs) t.name) es n ∙ ap (option_map (λ t. number_of (names fs) t.name)) at)

pub apart_map : {X Y : Type 0} (R : Y → Y → Type 0) (f : X → Y) (xs : List X) → AllPairs (λ a b. R (f a) (f b)) xs → AllPairs R (map f xs)
apart_map {X} {Y} R f xs apart i j d less within =
    let count : j < length xs = rw (← length-map xs f) within in
    let first : i < length xs = omega arith in
    let x = (item_at xs j count).0 in
    subst (R (get_or (map f xs) i d)) (sym (get_or-map f xs j x d count)) (subst (λ y. R y (f (get_or xs j x))) (sym (get_or-map f xs i x d first)) (apart i j x less count))

pub all_at : {X : Type 0} (P : X → Type 0) (xs : List X) → ((n : ℕ) (x : X) → slice_get xs n ≡ Some x → P x) → All P xs
all_at P xs each k d lt = each k (get_or xs k d) (slice_get-get_or xs k d lt)

-- One more item in the loops that make the lists of a rule, and what these lists have.
use Rattle.std.proofs.Common.{◌≡◌, ℕ, ◌+◌, Bool, true, false, cond, Option, None, Some, List, [], ◌∷◌, ◌++◌, take, filter, sym, ap, ◌∙◌, refl, subst, inl, inr, ◌⊎◌, arith}
use Rattle.std.specs.Prelude.{slice_get, Contains}
use Rattle.std.specs.List.{filter_map, cons_option}
use Rattle.std.proofs.lemmas.List.{append_assoc, append-nil}
use Rattle.std.proofs.lemmas.List.Elements.{filter-append, filter_map-append}
use Rattle.std.proofs.lemmas.Bool.{true≢false}
use Rattle.mre_base.proofs.Loops.{take_item, contains_cases, contains_here, contains_later}

module _ {X : Type 0} (xs : List X) (i : ℕ) (x : X) (here : slice_get xs i ≡ Some x) where
  filtered : (p : X → Bool) (b : Bool) → p x ≡ b → filter p (take (i + 1) xs) ≡ filter p (take i xs) ++ cond b (x ∷ []) []
  filtered p b is = ap (filter p) (take_item xs i x here) ∙ filter-append p (take i xs) (x ∷ []) ∙ ap (λ c. filter p (take i xs) ++ cond c (x ∷ []) []) is

  pub kept : (p : X → Bool) (made new : List X) (copy : X) → made ≡ filter p (take i xs) → p x ≡ true → copy ≡ x → new ≡ made ++ copy ∷ [] → new ≡ filter p (take (i + 1) xs)
  kept p made new copy before passes same now = now ∙ (λ j. before j ++ same j ∷ []) ∙ sym (filtered p true passes)

  pub left : (p : X → Bool) (made : List X) → made ≡ filter p (take i xs) → p x ≡ false → made ≡ filter p (take (i + 1) xs)
  left p made before fails = before ∙ sym (append-nil (filter p (take i xs))) ∙ sym (filtered p false fails)

  module _ {Y : Type 0} (pick : X → Option Y) (front made : List Y) (before : made ≡ front ++ filter_map pick (take i xs)) where
    more : (o : Option Y) → pick x ≡ o → made ++ cons_option o [] ≡ front ++ filter_map pick (take (i + 1) xs)
    more o is =
        ap (λ list. list ++ cons_option o []) before ∙ append_assoc front (filter_map pick (take i xs)) (cons_option o [])
        ∙ ap (λ list. front ++ list) (ap (λ c. filter_map pick (take i xs) ++ cons_option c []) (sym is) ∙ sym (filter_map-append pick (take i xs) (x ∷ [])) ∙ ap (filter_map pick) (sym (take_item xs i x here)))

    pub picked : (new : List Y) (y copy : Y) → pick x ≡ Some y → copy ≡ y → new ≡ made ++ copy ∷ [] → new ≡ front ++ filter_map pick (take (i + 1) xs)
    picked new y copy is same now = now ∙ ap (λ z. made ++ z ∷ []) same ∙ more (Some y) is

    pub passed : pick x ≡ None → made ≡ front ++ filter_map pick (take (i + 1) xs)
    passed is = sym (append-nil made) ∙ more None is

-- ---- what a filtered list has
module _ {X : Type 0} (p : X → Bool) (y : X) (ys : List X) (x : X) where
  filter_has_by : (b : Bool) → p y ≡ b → (Contains (filter p ys) x → Contains ys x × (p x ≡ true)) → Contains (cond b (y ∷ filter p ys) (filter p ys)) x → Contains (y ∷ ys) x × (p x ≡ true)
  filter_has_by true passes rest among = elim (contains_cases y (filter p ys) x among) [
    | inl same ↦ (subst (Contains (y ∷ ys)) same (contains_here y ys), ap p (sym same) ∙ passes)
    | inr later ↦ (contains_later y ys x (rest later).0, (rest later).1)
  ]
  filter_has_by false fails rest among = (contains_later y ys x (rest among).0, (rest among).1)

  filter_keeps_by : (b : Bool) → p y ≡ b → p x ≡ true → (Contains ys x → Contains (filter p ys) x) → (y ≡ x) ⊎ Contains ys x → Contains (cond b (y ∷ filter p ys) (filter p ys)) x
  filter_keeps_by true is passes rest (inl same) = subst (Contains (y ∷ filter p ys)) same (contains_here y (filter p ys))
  filter_keeps_by true is passes rest (inr later) = contains_later y (filter p ys) x (rest later)
  filter_keeps_by false is passes rest (inl same) = absurd (true≢false (sym passes ∙ ap p (sym same) ∙ is))
  filter_keeps_by false is passes rest (inr later) = rest later

pub filter_has : {X : Type 0} (p : X → Bool) (xs : List X) (x : X) → Contains (filter p xs) x → Contains xs x × (p x ≡ true)
filter_has p [] x at = absurd (omega (arith, at.1))
filter_has p (y ∷ ys) x there = filter_has_by p y ys x (p y) refl (filter_has p ys x) there

pub filter_keeps : {X : Type 0} (p : X → Bool) (xs : List X) (x : X) → Contains xs x → p x ≡ true → Contains (filter p xs) x
filter_keeps p [] x at passes = absurd (omega (arith, at.1))
filter_keeps p (y ∷ ys) x there passes = filter_keeps_by p y ys x (p y) refl passes (λ later. filter_keeps p ys x later passes) (contains_cases y ys x there)

module _ {X Y : Type 0} (pick : X → Option Y) (z : X) (zs : List X) (y : Y) where
  picks_have_by : (o : Option Y) → pick z ≡ o → (Contains (filter_map pick zs) y → (x : X) × Contains zs x × (pick x ≡ Some y)) → Contains (cons_option o (filter_map pick zs)) y → (x : X) × Contains (z ∷ zs) x × (pick x ≡ Some y)
  picks_have_by None is rest among = let (x, at, given) = rest among in (x, contains_later z zs x at, given)
  picks_have_by (Some w) is rest among = elim (contains_cases w (filter_map pick zs) y among) [
    | inl same ↦ (z, contains_here z zs, is ∙ ap Some same)
    | inr later ↦ let (x, at, given) = rest later in (x, contains_later z zs x at, given)
  ]

  picks_keep_by : (o : Option Y) → pick z ≡ o → (x : X) → pick x ≡ Some y → (Contains zs x → Contains (filter_map pick zs) y) → (z ≡ x) ⊎ Contains zs x → Contains (cons_option o (filter_map pick zs)) y
  picks_keep_by o is x given rest (inl same) = subst (λ c. Contains (cons_option c (filter_map pick zs)) y) (sym given ∙ ap pick (sym same) ∙ is) (contains_here y (filter_map pick zs))
  picks_keep_by None is x given rest (inr later) = rest later
  picks_keep_by (Some w) is x given rest (inr later) = contains_later w (filter_map pick zs) y (rest later)

pub picks_have : {X Y : Type 0} (pick : X → Option Y) (xs : List X) (y : Y) → Contains (filter_map pick xs) y → (x : X) × Contains xs x × (pick x ≡ Some y)
picks_have pick [] y at = absurd (omega (arith, at.1))
picks_have pick (z ∷ zs) y there = picks_have_by pick z zs y (pick z) refl (picks_have pick zs y) there

pub picks_keep : {X Y : Type 0} (pick : X → Option Y) (xs : List X) (x : X) (y : Y) → Contains xs x → pick x ≡ Some y → Contains (filter_map pick xs) y
picks_keep pick [] x y at given = absurd (omega (arith, at.1))
picks_keep pick (z ∷ zs) x y there given = picks_keep_by pick z zs y (pick z) refl x given (λ later. picks_keep pick zs x y later given) (contains_cases z zs x there)

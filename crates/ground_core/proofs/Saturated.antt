-- What is decided over lists, and the least list that is closed under a decided step, which is found by adding what the step gives until nothing is left to add.
use Rattle.std.proofs.Common.{◌≡◌, ◌≢◌, ℕ, zero, suc, ◌≤◌, Bool, true, false, List, [], ◌∷◌, length, ◌⊎◌, inl, inr, refl, sym, ap, subst, arith}
use Rattle.std.specs.Prelude.{Contains}
use Rattle.std.specs.Bool.{Decides}
use Rattle.std.specs.List.{flat_map}
use Rattle.std.proofs.lemmas.Bool.{true≢false}
use Rattle.std.proofs.lemmas.List.Elements.{Contains-append_cases, All-weaker, All-contains_itself}
use Rattle.std.proofs.lemmas.List.Kept.{AllPairs-cons}
use Rattle.mre_base.proofs.Loops.{contains_cases, contains_here, contains_later}
use Rattle.reach_kit.specs.Relaxed.{IsDistinct}

-- it is decided whether the statement holds
abbrev pub Known : Type 0 → Type 0
Known P = P ⊎ ¬ P

-- ---- decided statements, put together
pub known_test : (b : Bool) → Known (b ≡ true)
known_test true = inl refl
known_test false = inr (λ e. true≢false (sym e))

pub known_same : {P Q : Type 0} → (P → Q) → (Q → P) → Known P → Known Q
known_same to from (inl p) = inl (to p)
known_same to from (inr fails) = inr (λ q. fails (from q))

pub known_by : {P : Type 0} (b : Bool) → Decides b P → Known P
known_by b decides = known_same decides.0 decides.1 (known_test b)

pub known_both : {P Q : Type 0} → Known P → Known Q → Known (P × Q)
known_both (inl p) (inl q) = inl (p, q)
known_both (inl p) (inr fails) = inr (λ both. fails both.1)
known_both (inr fails) q = inr (λ both. fails both.0)

pub known_either : {P Q : Type 0} → Known P → Known Q → Known (P ⊎ Q)
known_either (inl p) q = inl (inl p)
known_either (inr fails) (inl q) = inl (inr q)
known_either (inr fails) (inr none) = inr (λ one. elim one [
  | inl p ↦ fails p
  | inr q ↦ none q
])

-- ---- decided statements on the items of a list
pub nothing_in : {X : Type 0} (x : X) → Contains [] x → ⊥
nothing_in x at = absurd (omega (arith, at.1))

module _ {X : Type 0} (P : X → Type 0) (known : (x : X) → Known (P x)) where
  -- some item has the property, or none
  pub some_known : (xs : List X) → Known ((x : X) × Contains xs x × P x)
  some_known [] = inr (λ (x, at, has). nothing_in x at)
  some_known (y ∷ ys) = by (known y) (some_known ys)
    where
      by : Known (P y) → Known ((x : X) × Contains ys x × P x) → Known ((x : X) × Contains (y ∷ ys) x × P x)
      by (inl here) rest = inl (y, contains_here y ys, here)
      by (inr fails) (inl (x, at, has)) = inl (x, contains_later y ys x at, has)
      by (inr fails) (inr none) = inr (λ (x, at, has). elim (contains_cases y ys x at) [
        | inl same ↦ fails (subst P (sym same) has)
        | inr later ↦ none (x, later, has)
      ])

  -- each item has the property, or some hasn't
  pub all_known : (xs : List X) → Known ((x : X) → Contains xs x → P x)
  all_known [] = inl (λ x at. absurd (nothing_in x at))
  all_known (y ∷ ys) = by (known y) (all_known ys)
    where
      by : Known (P y) → Known ((x : X) → Contains ys x → P x) → Known ((x : X) → Contains (y ∷ ys) x → P x)
      by (inr fails) rest = inr (λ all. fails (all y (contains_here y ys)))
      by (inl here) (inr fails) = inr (λ all. fails (λ x at. all x (contains_later y ys x at)))
      by (inl here) (inl rest) = inl (λ x at. elim (contains_cases y ys x at) [
        | inl same ↦ subst P same here
        | inr later ↦ rest x later
      ])

-- where equality is decided, so is what a list contains
pub contains_known : {X : Type 0} → ((x y : X) → Known (x ≡ y)) → (xs : List X) (x : X) → Known (Contains xs x)
contains_known equal xs x = known_same (λ (y, at, same). subst (Contains xs) same at) (λ at. (x, at, refl)) (some_known (λ y. y ≡ x) (λ y. equal y x) xs)

-- what a list of joined lists contains comes from one of them
pub flat_from : {X Y : Type 0} (f : X → List Y) (xs : List X) (y : Y) → Contains (flat_map f xs) y → (x : X) × Contains xs x × Contains (f x) y
flat_from f [] y at = absurd (nothing_in y at)
flat_from f (x ∷ xs) y at = elim (Contains-append_cases (f x) (flat_map f xs) y at) [
  | inl here ↦ (x, contains_here x xs, here)
  | inr later ↦ let (z, among, there) = flat_from f xs y later in (z, contains_later x xs z among, there)
]

-- ---- the same items, each once
pub record Once {X : Type 0} (xs : List X) : Type 0 where
  pub items : List X
  pub distinct : IsDistinct items
  pub to : (x : X) → Contains items x → Contains xs x
  pub from : (x : X) → Contains xs x → Contains items x

pub once : {X : Type 0} → ((x y : X) → Known (x ≡ y)) → (xs : List X) → Once xs
once equal [] = record { items = []; distinct = λ i j d lt within. absurd (omega arith); to = λ x at. at; from = λ x at. at }
once equal (y ∷ ys) = by (once equal ys) (contains_known equal (once equal ys).items y)
  where
    by : (rest : Once ys) → Known (Contains rest.items y) → Once (y ∷ ys)
    by rest (inl there) = record {
      items = rest.items;
      distinct = rest.distinct;
      to = λ x at. contains_later y ys x (rest.to x at);
      from = λ x at. elim (contains_cases y ys x at) [
        | inl same ↦ subst (Contains rest.items) same there
        | inr later ↦ rest.from x later
      ];
    }
    by rest (inr away) = record {
      items = y ∷ rest.items;
      distinct = AllPairs-cons (λ one two. one ≢ two) y rest.items (All-weaker (Contains rest.items) (λ z. y ≢ z) (λ z among same. away (subst (Contains rest.items) (sym same) among)) rest.items (All-contains_itself rest.items)) rest.distinct;
      to = λ x at. elim (contains_cases y rest.items x at) [
        | inl same ↦ subst (Contains (y ∷ ys)) same (contains_here y ys)
        | inr later ↦ contains_later y ys x (rest.to x later)
      ];
      from = λ x at. elim (contains_cases y ys x at) [
        | inl same ↦ subst (Contains (y ∷ rest.items)) same (contains_here y rest.items)
        | inr later ↦ contains_later y rest.items x (rest.from x later)
      ];
    }

-- ---- one item with a property, and the others
record Picked {X : Type 0} (P : X → Type 0) (xs : List X) : Type 0 where
  item : X
  others : List X
  has : P item
  fewer : length xs ≡ suc (length others)
  split : (x : X) → Contains xs x → (item ≡ x) ⊎ Contains others x

picked : {X : Type 0} (P : X → Type 0) → ((x : X) → Known (P x)) → (xs : List X) → Picked P xs ⊎ ((x : X) → Contains xs x → P x → ⊥)
picked P known [] = inr (λ x at has. nothing_in x at)
picked P known (y ∷ ys) = by (known y) (picked P known ys)
  where
    by : Known (P y) → Picked P ys ⊎ ((x : _) → Contains ys x → P x → ⊥) → Picked P (y ∷ ys) ⊎ ((x : _) → Contains (y ∷ ys) x → P x → ⊥)
    by (inl here) rest = inl (record { item = y; others = ys; has = here; fewer = refl; split = contains_cases y ys })
    by (inr fails) (inl rest) = inl (record {
      item = rest.item;
      others = y ∷ rest.others;
      has = rest.has;
      fewer = ap suc rest.fewer;
      split = λ x at. elim (contains_cases y ys x at) [
        | inl same ↦ inr (subst (Contains (y ∷ rest.others)) same (contains_here y rest.others))
        | inr later ↦ elim (rest.split x later) [
          | inl is ↦ inl is
          | inr other ↦ inr (contains_later y rest.others x other)
        ]
      ];
    })
    by (inr fails) (inr none) = inr (λ x at has. elim (contains_cases y ys x at) [
      | inl same ↦ fails (subst P (sym same) has)
      | inr later ↦ none x later has
    ])

-- ---- a step gives further items of a list from those that are there, and each that it gives from good items is good
module _ {X : Type 0} (all : List X) (Gives : List X → X → Type 0) (known : (done : List X) (x : X) → Known (Gives done x)) (Good : X → Type 0)
    (sound : (done : List X) → ((x : X) → Contains done x → Good x) → (x : X) → Gives done x → Good x) where
  -- good items to which the step gives no further one
  pub record Saturated : Type 0 where
    pub done : List X
    pub good : (x : X) → Contains done x → Good x
    pub closed : (x : X) → Contains all x → Gives done x → Contains done x

  -- adding what the step gives, one at a time, until it gives none of those that are left
  add_left : (count : ℕ) (left done : List X) → length left ≤ count → ((x : X) → Contains all x → Contains done x ⊎ Contains left x) → ((x : X) → Contains done x → Good x) → Saturated
  add_left zero left done few each good = record {
    done = done;
    good = good;
    closed = λ x among gives. elim (each x among) [
      | inl there ↦ there
      | inr at ↦ absurd (omega (arith, at.1, few))
    ];
  }
  add_left (suc count) left done few each good = elim (picked (Gives done) (known done) left) [
    | inr none ↦ record {
      done = done;
      good = good;
      closed = λ x among gives. elim (each x among) [
        | inl there ↦ there
        | inr at ↦ absurd (none x at gives)
      ];
    }
    | inl pick ↦ add_left count pick.others (pick.item ∷ done) (let fewer = pick.fewer in omega (arith, fewer, few))
        (λ x among. elim (each x among) [
          | inl there ↦ inl (contains_later pick.item done x there)
          | inr at ↦ elim (pick.split x at) [
            | inl same ↦ inl (subst (Contains (pick.item ∷ done)) same (contains_here pick.item done))
            | inr other ↦ inr other
          ]
        ])
        (λ x at. elim (contains_cases pick.item done x at) [
          | inl same ↦ subst Good same (sound done good pick.item pick.has)
          | inr there ↦ good x there
        ])
  ]

  pub saturated : Saturated
  saturated = add_left (length all) all [] (omega arith) (λ x among. inr among) (λ x at. absurd (nothing_in x at))

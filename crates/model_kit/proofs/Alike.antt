-- The tests of equality decide equality.
use Rattle.std.proofs.Common.{◌≡◌, ℕ, ◌&&◌, Bool, List, refl, sym, ap, ◌∙◌}
use Rattle.std.specs.Prelude.{◌==◌}
use Rattle.std.specs.Bool.{Decides}
use Rattle.std.specs.Cmp.{first_so, second_so}
use Rattle.std.specs.Cmp.Lexicographic.{pointwise, pointwise_decides}
use Rattle.std.proofs.lemmas.Bool.{true≢false, and_from}
use Rattle.std.proofs.lemmas.Bool.Decides.{Decides-eqb}
use Rattle.model_kit.specs.declared.atom.GroundAtom.{GroundAtom}
use Rattle.model_kit.specs.declared.atom.SchemaAtom.{SchemaAtom}
use Rattle.model_kit.specs.declared.atom.Term.{Term}
use Rattle.model_kit.specs.declared.atom.Term.TheVariants.{Param, Object}
use Rattle.model_kit.specs.Same.{same_numbers, same_term, same_atom, same_schema_atom}
use Rattle.model_kit.specs.Places.{Place, Init, Goal, Knows, Pre, Add, Del, Cost, Value, same_place}

pub same_numbers-decides : (xs ys : List ℕ) → Decides (same_numbers xs ys) (xs ≡ ys)
same_numbers-decides = pointwise_decides Decides-eqb

pub same_term-decides : (s t : Term) → Decides (same_term s t) (s ≡ t)
same_term-decides (Param i) (Param j) = (λ e. ap Param ((Decides-eqb i j).0 e), λ e. (Decides-eqb i j).1 (cc))
same_term-decides (Object i) (Object j) = (λ e. ap Object ((Decides-eqb i j).0 e), λ e. (Decides-eqb i j).1 (cc))
same_term-decides (Param i) (Object j) = (λ e. absurd (true≢false (sym e)), λ e. absurd (cc))
same_term-decides (Object i) (Param j) = (λ e. absurd (true≢false (sym e)), λ e. absurd (cc))

-- two tests decide the equality of a pair
both_decide : {A B C : Type 0} (make : A → B → C) (first : C → A) (second : C → B) (s t : Bool) (a c : A) (b d : B)
    → Decides s (a ≡ c) → Decides t (b ≡ d) → first (make a b) ≡ a → first (make c d) ≡ c → second (make a b) ≡ b → second (make c d) ≡ d
    → Decides (s && t) (make a b ≡ make c d)
both_decide make first second s t a c b d p q fa fc sb sd = (
  λ e. (λ i. make (p.0 (first_so s t e) i) (q.0 (second_so s t e) i)),
  λ e. and_from s t (p.1 (sym fa ∙ ap first e ∙ fc)) (q.1 (sym sb ∙ ap second e ∙ sd)),
)

pub same_atom-decides : (a b : GroundAtom) → Decides (same_atom a b) (a ≡ b)
same_atom-decides a b =
    both_decide (λ (p : ℕ) (xs : List ℕ). let made : GroundAtom = record { predicate = p; objects = xs } in made) (λ m. m.predicate) (λ m. m.objects)
    (a.predicate == b.predicate) (same_numbers a.objects b.objects) a.predicate b.predicate a.objects b.objects
    (Decides-eqb a.predicate b.predicate) (same_numbers-decides a.objects b.objects) refl refl refl refl

pub same_schema_atom-decides : (a b : SchemaAtom) → Decides (same_schema_atom a b) (a ≡ b)
same_schema_atom-decides a b =
    both_decide (λ (p : ℕ) (ts : List Term). let made : SchemaAtom = record { predicate = p; args = ts } in made) (λ m. m.predicate) (λ m. m.args)
    (a.predicate == b.predicate) (pointwise same_term a.args b.args) a.predicate b.predicate a.args b.args
    (Decides-eqb a.predicate b.predicate) (pointwise_decides same_term-decides a.args b.args) refl refl refl refl

numbered : {A : Type 0} (make : ℕ → A → Place) (number : Place → ℕ) (thing : A → Place → A) (same : A → A → Bool) → ((a b : A) → Decides (same a b) (a ≡ b))
    → ((i : ℕ) (a : A) → number (make i a) ≡ i) → ((i : ℕ) (a d : A) → thing d (make i a) ≡ a)
    → (i j : ℕ) (a b : A) → Decides ((i == j) && same a b) (make i a ≡ make j b)
numbered make number thing same decides first second i j a b =
    both_decide make number (thing a) (i == j) (same a b) i j a b (Decides-eqb i j) (decides a b) (first i a) (first j b) (second i a a) (second j b a)

alone : {A : Type 0} (make : A → Place) (thing : A → Place → A) (same : A → A → Bool) → ((a b : A) → Decides (same a b) (a ≡ b)) → ((a d : A) → thing d (make a) ≡ a)
    → (a b : A) → Decides (same a b) (make a ≡ make b)
alone make thing same decides is a b = (λ e. ap make ((decides a b).0 e), λ e. (decides a b).1 (sym (is a a) ∙ ap (thing a) e ∙ is b a))

abbrev ground_atom_at : GroundAtom → Place → GroundAtom
ground_atom_at d (Init a) = a
ground_atom_at d (Goal a) = a
ground_atom_at d _ = d

abbrev schema_atom_at : SchemaAtom → Place → SchemaAtom
schema_atom_at d (Pre i a) = a
schema_atom_at d (Add i a) = a
schema_atom_at d (Del i a) = a
schema_atom_at d _ = d

abbrev number_at : ℕ → Place → ℕ
number_at d (Knows i) = i
number_at d (Pre i a) = i
number_at d (Add i a) = i
number_at d (Del i a) = i
number_at d (Cost i) = i
number_at d (Value f xs) = f
number_at d _ = d

abbrev objects_at : List ℕ → Place → List ℕ
objects_at d (Value f xs) = xs
objects_at d _ = d

pub same_place-decides : (p q : Place) → Decides (same_place p q) (p ≡ q)
same_place-decides (Init a) (Init b) = alone Init ground_atom_at same_atom same_atom-decides (λ a d. refl) a b
same_place-decides (Goal a) (Goal b) = alone Goal ground_atom_at same_atom same_atom-decides (λ a d. refl) a b
same_place-decides (Knows i) (Knows j) = alone Knows number_at ◌==◌ Decides-eqb (λ a d. refl) i j
same_place-decides (Pre i a) (Pre j b) = numbered Pre (number_at 0) schema_atom_at same_schema_atom same_schema_atom-decides (λ i a. refl) (λ i a d. refl) i j a b
same_place-decides (Add i a) (Add j b) = numbered Add (number_at 0) schema_atom_at same_schema_atom same_schema_atom-decides (λ i a. refl) (λ i a d. refl) i j a b
same_place-decides (Del i a) (Del j b) = numbered Del (number_at 0) schema_atom_at same_schema_atom same_schema_atom-decides (λ i a. refl) (λ i a d. refl) i j a b
same_place-decides (Cost i) (Cost j) = alone Cost number_at ◌==◌ Decides-eqb (λ a d. refl) i j
same_place-decides (Value f xs) (Value g ys) = numbered Value (number_at 0) objects_at same_numbers same_numbers-decides (λ i a. refl) (λ i a d. refl) f g xs ys
same_place-decides p q = (λ e. absurd (true≢false (sym e)), λ e. absurd (cc))

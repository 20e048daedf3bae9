-- Equality of nodes, as the program decides it, is equality.
use Rattle.std.proofs.Common.{◌≡◌, ℕ, Bool, true, false, ◌&&◌, nat_eq, List, Some, Contains, slice_get, get_or, position, refl, ap, sym, ◌∙◌}
use Rattle.std.proofs.lemmas.Bool.{false≢true, and_parts, eqb-true, eq-eqb}
use Rattle.std.proofs.Math.Bool.{beq}
use Rattle.std.specs.Bool.{Decides}
use Rattle.std.specs.List.{list_any}
use Rattle.std.specs.Cmp.{IsEquivalence, decided}
use Rattle.std.proofs.lemmas.Map.Views.{list_any-from_Contains, Contains-from_any}
use Rattle.std.proofs.lemmas.List.Quantifiers.{position-Some}
use Rattle.std.proofs.lemmas.Option.{slice_get-get_or}
use Rattle.mre_base.proofs.Tests.{beq_same}
use Rattle.mre_base.specs.Sets.{is_same_set, is_same_bit_set}
use Rattle.mre_base.specs.SameSets.{same_from_is_same_set, same_from_is_same_bit_set, is_same_set-itself, is_same_bit_set-itself}
use Rattle.mre_base.specs.declared.node.Node.{Node}
use Rattle.mre_base.specs.declared.node.Node.TheVariants.{Split, Probe, State}
use Rattle.mre_base.specs.contracts.node.NodePartialEq.TheImpl.{eq-value}

pub same_from_eq : (a b : Node) → (eq-value).it a b ≡ true → a ≡ b
same_from_eq (Split u t l p) (Split v s m q) h =
    let one = and_parts (beq u v) (is_same_set t s && (is_same_set l m && nat_eq p q)) h in
    let two = and_parts (is_same_set t s) (is_same_set l m && nat_eq p q) one.1 in
    let three = and_parts (is_same_set l m) (nat_eq p q) two.1 in
    (λ i. Split (beq_same u v one.0 i) (same_from_is_same_set t s two.0 i) (same_from_is_same_set l m three.0 i) (eqb-true p q three.1 i))
same_from_eq (Probe t l) (Probe s m) h =
    let both = and_parts (is_same_set t s) (is_same_set l m) h in
    (λ i. Probe (same_from_is_same_set t s both.0 i) (same_from_is_same_set l m both.1 i))
same_from_eq (State t l x) (State s m y) h =
    let one = and_parts (is_same_set t s) (is_same_set l m && is_same_bit_set x y) h in
    let two = and_parts (is_same_set l m) (is_same_bit_set x y) one.1 in
    (λ i. State (same_from_is_same_set t s one.0 i) (same_from_is_same_set l m two.0 i) (same_from_is_same_bit_set x y two.1 i))
same_from_eq _ _ h = absurd (false≢true h)

pub eq-itself : (a : Node) → (eq-value).it a a ≡ true
eq-itself (Split true t l p) = rw (is_same_set-itself t, is_same_set-itself l, eq-eqb p p refl) refl
eq-itself (Split false t l p) = rw (is_same_set-itself t, is_same_set-itself l, eq-eqb p p refl) refl
eq-itself (Probe t l) = rw (is_same_set-itself t, is_same_set-itself l) refl
eq-itself (State t l x) = rw (is_same_set-itself t, is_same_set-itself l, is_same_bit_set-itself x) refl

pub eq-Decides : (a b : Node) → Decides ((eq-value).it a b) (a ≡ b)
eq-Decides a b = (same_from_eq a b, λ e. ap ((eq-value).it a) (sym e) ∙ eq-itself a)

pub eq-equiv : IsEquivalence (eq-value).it
eq-equiv = decided (eq-value).it eq-Decides

-- ---- a node in a list of nodes
pub slice_get-position : (nodes : List Node) (node : Node) (place : ℕ) → position ((eq-value).it node) nodes ≡ Some place → slice_get nodes place ≡ Some node
slice_get-position nodes node place h =
    let found = position-Some ((eq-value).it node) nodes place node h in
    slice_get-get_or nodes place node found.0 ∙ ap Some (sym (same_from_eq node (get_or nodes place node) found.1))

pub absent : (nodes : List Node) (node : Node) → list_any ((eq-value).it node) nodes ≡ false → ¬ Contains nodes node
absent nodes node h there = false≢true (sym h ∙ list_any-from_Contains eq-equiv node nodes there)

pub list_any-absent : (nodes : List Node) (node : Node) → ¬ Contains nodes node → list_any ((eq-value).it node) nodes ≡ false
list_any-absent nodes node h = by (list_any ((eq-value).it node) nodes) refl
  where
    by : (b : Bool) → list_any ((eq-value).it node) nodes ≡ b → b ≡ false
    by true e = absurd (h (Contains-from_any same_from_eq node nodes e))
    by false e = refl

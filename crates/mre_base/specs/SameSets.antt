-- The test of whether two sets are equal decides it: the laws on which `Eq` and `Hash` of the types
-- of sets rest.
use Rattle.std.specs.Prelude.{◌≡◌, ℕ, Bool, true, false, refl, nat_eq}
use Rattle.std.proofs.Common.{sym, ap, ◌∙◌}
use Rattle.std.proofs.lemmas.Bool.{and_parts, eqb-true, eq-eqb}
use Rattle.std.specs.Bool.{Decides}
use Rattle.std.specs.Ordering.{nat_cmp}
use Rattle.std.specs.Cmp.{nat_cmp_total, IsEquivalence, decided}
use Rattle.std.specs.FinSet as set
use Rattle.mre_base.specs.Sets.{is_same_set, BitSet, is_same_bit_set}

-- two sets with the same members are equal
pub same_members : (s t : set.FinSet nat_cmp) → ((q : ℕ) → set.contains s q ≡ set.contains t q)
    → s ≡ t
same_members s t h = set.same_set nat_cmp_total set.nat_cmp-IsAntisymmetric s t h

alike : (a b : Bool) → (a ≡ true → b ≡ true) → (b ≡ true → a ≡ true) → a ≡ b
alike true b f g = sym (f refl)
alike false true f g = g refl
alike false false f g = refl

pub same_from_is_same_set : (s t : set.FinSet nat_cmp) → is_same_set s t ≡ true → s ≡ t
same_from_is_same_set s t h =
    let both = and_parts (set.is_subset s t) (set.is_subset t s) h in
    same_members s t (λ q. alike (set.contains s q) (set.contains t q)
    (set.is_subset-contains nat_cmp_total s t both.0 q)
    (set.is_subset-contains nat_cmp_total t s both.1 q))

pub is_same_set-itself : (s : set.FinSet nat_cmp) → is_same_set s s ≡ true
is_same_set-itself s = rw (set.contains-is_subset nat_cmp_total s s (λ q h. h)) refl

pub is_same_set-Decides : (s t : set.FinSet nat_cmp) → Decides (is_same_set s t) (s ≡ t)
is_same_set-Decides s t =
    (same_from_is_same_set s t, λ e. ap (is_same_set s) (sym e) ∙ is_same_set-itself s)

pub is_same_set-equiv : IsEquivalence is_same_set
is_same_set-equiv = decided is_same_set is_same_set-Decides

pub same_from_is_same_bit_set : (s t : BitSet) → is_same_bit_set s t ≡ true → s ≡ t
same_from_is_same_bit_set s t h =
    let both = and_parts (nat_eq s.width t.width) (is_same_set s.members t.members) h in
    (λ i. record {
      width = eqb-true s.width t.width both.0 i;
      members = same_from_is_same_set
          s.members t.members both.1 i;
    })

pub is_same_bit_set-itself : (s : BitSet) → is_same_bit_set s s ≡ true
is_same_bit_set-itself s = rw (eq-eqb s.width s.width refl) (is_same_set-itself s.members)

pub is_same_bit_set-Decides : (s t : BitSet) → Decides (is_same_bit_set s t) (s ≡ t)
is_same_bit_set-Decides s t =
    (same_from_is_same_bit_set s t, λ e. ap (is_same_bit_set s) (sym e) ∙ is_same_bit_set-itself s)

pub is_same_bit_set-equiv : IsEquivalence is_same_bit_set
is_same_bit_set-equiv = decided is_same_bit_set is_same_bit_set-Decides

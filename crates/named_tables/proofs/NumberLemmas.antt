-- The numbers of atoms.
use Rattle.std.proofs.Common.{◌≡◌, ◌+◌, ◌≤◌, ◌<◌, zero, suc, true, false, not, cond, List, [], ◌∷◌, length, Some, sym, ap, ◌∙◌, arith, ⊎_elim}
use Rattle.std.specs.Prelude.{Contains, slice_get}
use Rattle.std.proofs.lemmas.Bool.{cases_Bool, true≢false}
use Rattle.model_kit.specs.declared.atom.GroundAtom.{GroundAtom}
use Rattle.model_kit.specs.Same.{same_atom}
use Rattle.model_kit.proofs.Alike.{same_atom-decides}
use Rattle.named_tables.specs.Tables.{number_in}

number_first : (atom first : GroundAtom) (atoms : List GroundAtom) → same_atom atom first ≡ true → number_in (first ∷ atoms) atom ≡ 0
number_first atom first atoms hit = ap (λ b. cond (not b) (1 + number_in atoms atom) 0) hit

number_later : (atom first : GroundAtom) (atoms : List GroundAtom) → same_atom atom first ≡ false → number_in (first ∷ atoms) atom ≡ suc (number_in atoms atom)
number_later atom first atoms miss = ap (λ b. cond (not b) (1 + number_in atoms atom) 0) miss ∙ omega arith

pub number_most : (atoms : List GroundAtom) (atom : GroundAtom) → number_in atoms atom ≤ length atoms
number_most [] atom = omega arith
number_most (first ∷ atoms) atom =
    ⊎_elim
    (λ hit. let e = number_first atom first atoms hit in omega (arith, e))
    (λ miss. let e = number_later atom first atoms miss in let rest = number_most atoms atom in omega (arith, e, rest))
    (cases_Bool (same_atom atom first))

-- a listed atom has the number of a place
pub number_listed : (atoms : List GroundAtom) (atom : GroundAtom) → Contains atoms atom → number_in atoms atom < length atoms
number_listed [] atom at = absurd (omega (arith, at.1))
number_listed (first ∷ atoms) atom at =
    ⊎_elim
    (λ hit. let e = number_first atom first atoms hit in omega (arith, e))
    (λ miss. let e = number_later atom first atoms miss in let rest = number_listed atoms atom (later miss at) in omega (arith, e, rest))
    (cases_Bool (same_atom atom first))
  where
    later : same_atom atom first ≡ false → Contains (first ∷ atoms) atom → Contains atoms atom
    later miss (zero, lt, is) = absurd (true≢false (sym ((same_atom-decides atom first).1 (sym is)) ∙ miss))
    later miss (suc i, lt, is) = (i, omega arith, is)

-- the atom is at its number
pub number_there : (atoms : List GroundAtom) (atom : GroundAtom) → number_in atoms atom < length atoms → slice_get atoms (number_in atoms atom) ≡ Some atom
number_there [] atom lt = absurd (omega arith)
number_there (first ∷ atoms) atom lt =
    ⊎_elim
    (λ hit. ap (slice_get (first ∷ atoms)) (number_first atom first atoms hit) ∙ ap Some (sym ((same_atom-decides atom first).0 hit)))
    (λ miss. let e = number_later atom first atoms miss in ap (slice_get (first ∷ atoms)) e ∙ number_there atoms atom (omega (arith, e, lt)))
    (cases_Bool (same_atom atom first))

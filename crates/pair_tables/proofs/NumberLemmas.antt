-- The numbers of atoms, from the last of the list to the first.
use Rattle.std.proofs.Common.{◌≡◌, ℕ, ◌+◌, ◌-◌, ◌<◌, suc, Bool, true, false, not, cond, Option, None, Some, List, [], ◌∷◌, length, drop, refl, sym, ap, ◌∙◌, arith}
use Rattle.std.specs.Prelude.{slice_get, unwrap_or}
use Rattle.std.specs.Ordering.{is_eq}
use Rattle.std.specs.BTreeMap.{BTreeMap, Updates, get}
use Rattle.std.proofs.lemmas.List.{drop_all}
use Rattle.mre_base.proofs.Loops.{drop_item}
use Rattle.model_kit.specs.declared.atom.GroundAtom.{GroundAtom}
use Rattle.model_kit.specs.Same.{same_atom}
use Rattle.model_kit.specs.Judging.{atom_cmp}
use Rattle.model_kit.proofs.StateLemmas.{atom_cmp-ties, same_atom-sym}
use Rattle.named_tables.specs.Tables.{number_in}

-- the place of an atom, where the places of the list are counted from k on
abbrev pub place_from : ℕ → List GroundAtom → GroundAtom → Option ℕ
place_from k [] atom = None
place_from k (first ∷ atoms) atom = cond (same_atom atom first) (Some k) (place_from (k + 1) atoms atom)

-- one more atom in front
pub place_more : (atoms : List GroundAtom) (i : ℕ) (first : GroundAtom) → 0 < i → slice_get atoms (i - 1) ≡ Some first → (key : GroundAtom) → key ≡ first
    → (old new : BTreeMap GroundAtom ℕ) → ((atom : GroundAtom) → get atom_cmp old atom ≡ place_from i (drop i atoms) atom)
    → Updates atom_cmp old new key (Some (i - 1)) → (atom : GroundAtom) → get atom_cmp new atom ≡ place_from (i - 1) (drop (i - 1) atoms) atom
place_more atoms i first positive at key is old new before updates atom =
    let back : i - 1 + 1 ≡ i = omega arith in
    let split : drop (i - 1) atoms ≡ first ∷ drop i atoms = drop_item atoms (i - 1) first at ∙ ap (λ j. first ∷ drop j atoms) back in
    updates.0 atom
    ∙ (λ j. cond (ties j) (Some (i - 1)) (before atom j))
    ∙ ap (λ k. cond (same_atom atom first) (Some (i - 1)) (place_from k (drop i atoms) atom)) (sym back)
    ∙ ap (λ list. place_from (i - 1) list atom) (sym split)
  where
    ties : is_eq (atom_cmp key atom) ≡ same_atom atom first
    ties = atom_cmp-ties key atom ∙ same_atom-sym key atom ∙ ap (same_atom atom) is

-- the place in the whole list is the number
pub place_is : (k : ℕ) (atoms : List GroundAtom) (atom : GroundAtom) → unwrap_or (place_from k atoms atom) (k + length atoms) ≡ k + number_in atoms atom
place_is k [] atom = refl
place_is k (first ∷ atoms) atom = by (same_atom atom first) (place_is (k + 1) atoms atom)
  where
    by : (b : Bool) → unwrap_or (place_from (k + 1) atoms atom) (k + 1 + length atoms) ≡ k + 1 + number_in atoms atom
        → unwrap_or (cond b (Some k) (place_from (k + 1) atoms atom)) (k + suc (length atoms)) ≡ k + cond (not b) (1 + number_in atoms atom) 0
    by true rest = omega arith
    by false rest = ap (unwrap_or (place_from (k + 1) atoms atom)) (omega arith) ∙ rest ∙ omega arith

pub none_placed : (atoms : List GroundAtom) (n : ℕ) (atom : GroundAtom) → n ≡ length atoms → None ≡ place_from n (drop n atoms) atom
none_placed atoms n atom is = ap (λ list. place_from n list atom) (sym (drop_all n atoms (omega (arith, is))))

-- all places are there
pub places_done : (atoms : List GroundAtom) (n : ℕ) → n ≡ 0 → (atom : GroundAtom) (o : Option ℕ) → o ≡ place_from n (drop n atoms) atom → unwrap_or o (length atoms) ≡ number_in atoms atom
places_done atoms n is atom o found =
    ap (λ p. unwrap_or p (length atoms)) (found ∙ ap (λ k. place_from k (drop k atoms) atom) is) ∙ ap (unwrap_or (place_from 0 atoms atom)) all ∙ place_is 0 atoms atom ∙ omega arith
  where
    all : length atoms ≡ 0 + length atoms
    all = omega arith

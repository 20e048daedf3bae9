-- What an insertion and a removal change of a set of atoms.
use Rattle.std.proofs.Common.{◌≡◌, ℕ, ◌+◌, ◌&&◌, ◌||◌, Bool, true, false, cond, Some, List, [], ◌∷◌, take, map, refl, sym, ap, ◌∙◌}
use Rattle.std.specs.Prelude.{not, ◌==◌, slice_get}
use Rattle.std.specs.List.{list_any}
use Rattle.std.specs.Ordering.{nat_cmp, is_eq}
use Rattle.std.specs.Cmp.{unsigned_ties, both_tied}
use Rattle.std.specs.Cmp.Lexicographic.{slice_cmp, texts_ties}
use Rattle.std.specs.BTreeSet.{BTreeSet, Updates}
use Rattle.std.proofs.lemmas.Bool.Decides.{same_from_decides, Decides-like}
use Rattle.std.proofs.Math.Bool.{or_assoc}
use Rattle.model_kit.specs.declared.atom.GroundAtom.{GroundAtom}
use Rattle.model_kit.specs.declared.atom.SchemaAtom.{SchemaAtom}
use Rattle.model_kit.specs.declared.values.FunctionTerm.{FunctionTerm}
use Rattle.model_kit.specs.Same.{same_numbers, same_atom}
use Rattle.model_kit.specs.Runs.{instance}
use Rattle.model_kit.specs.Judging.{atom_cmp, term_cmp, has}
use Rattle.model_kit.proofs.Alike.{same_atom-decides}
use Rattle.mre_base.proofs.Loops.{list_any_item}

-- a test of the images is a test of the items
pub list_any-map : {X Y : Type 0} (p : Y → Bool) (f : X → Y) (xs : List X) → list_any p (map f xs) ≡ list_any (λ x. p (f x)) xs
list_any-map p f [] = refl
list_any-map p f (x ∷ xs) = ap (λ b. p (f x) || b) (list_any-map p f xs)

-- the order of atoms ties an atom only with itself
pub atom_cmp-ties : (a b : GroundAtom) → is_eq (atom_cmp a b) ≡ same_atom a b
atom_cmp-ties a b = sym (both_tied _ _ (nat_cmp a.predicate b.predicate) (slice_cmp nat_cmp a.objects b.objects) (unsigned_ties a.predicate b.predicate) (texts_ties a.objects b.objects))

pub term_cmp-ties : (s t : FunctionTerm) → is_eq (term_cmp s t) ≡ ((s.function == t.function) && same_numbers s.objects t.objects)
term_cmp-ties s t = sym (both_tied _ _ (nat_cmp s.function t.function) (slice_cmp nat_cmp s.objects t.objects) (unsigned_ties s.function t.function) (texts_ties s.objects t.objects))

pub same_atom-sym : (a b : GroundAtom) → same_atom a b ≡ same_atom b a
same_atom-sym a b = same_from_decides (same_atom a b) (same_atom b a) (same_atom-decides a b) (Decides-like (same_atom b a) sym sym (same_atom-decides b a))

pub has-insert : (old new : BTreeSet GroundAtom) (key : GroundAtom) → Updates atom_cmp old new key true → (atom : GroundAtom) → has new atom ≡ (has old atom || same_atom atom key)
has-insert old new key updates atom = updates.0 atom ∙ ap (λ b. cond b true (has old atom)) (atom_cmp-ties key atom ∙ same_atom-sym key atom) ∙ turn (same_atom atom key) (has old atom)
  where
    turn : (b c : Bool) → cond b true c ≡ (c || b)
    turn true true = refl
    turn true false = refl
    turn false true = refl
    turn false false = refl

pub has-remove : (old new : BTreeSet GroundAtom) (key : GroundAtom) → Updates atom_cmp old new key false → (atom : GroundAtom) → has new atom ≡ (has old atom && not (same_atom atom key))
has-remove old new key updates atom = updates.0 atom ∙ ap (λ b. cond b false (has old atom)) (atom_cmp-ties key atom ∙ same_atom-sym key atom) ∙ turn (same_atom atom key) (has old atom)
  where
    turn : (b c : Bool) → cond b false c ≡ (c && not b)
    turn true true = refl
    turn true false = refl
    turn false true = refl
    turn false false = refl

module _ (objects : List ℕ) (xs : List SchemaAtom) (i : ℕ) (x : SchemaAtom) (at : slice_get xs i ≡ Some x) (key : GroundAtom) (is : key ≡ instance objects x) where
  abbrev atoms_of : List SchemaAtom → List GroundAtom
  atoms_of fs = map (instance objects) fs

  one_more : (atom : GroundAtom) → (list_any (same_atom atom) (atoms_of (take i xs)) || same_atom atom key) ≡ list_any (same_atom atom) (atoms_of (take (i + 1) xs))
  one_more atom =
      ap (λ k. list_any (same_atom atom) (atoms_of (take i xs)) || same_atom atom k) is
      ∙ ap (λ b. b || same_atom atom (instance objects x)) (list_any-map (same_atom atom) (instance objects) (take i xs))
      ∙ sym (list_any_item xs i x at (λ f. same_atom atom (instance objects f)))
      ∙ sym (list_any-map (same_atom atom) (instance objects) (take (i + 1) xs))

  -- one more of the deletes is out
  pub delete_more : (begin old new : BTreeSet GroundAtom) → ((atom : GroundAtom) → has old atom ≡ (has begin atom && not (list_any (same_atom atom) (atoms_of (take i xs)))))
      → Updates atom_cmp old new key false → (atom : GroundAtom) → has new atom ≡ (has begin atom && not (list_any (same_atom atom) (atoms_of (take (i + 1) xs))))
  delete_more begin old new before updates atom =
      has-remove old new key updates atom
      ∙ ap (λ b. b && not (same_atom atom key)) (before atom)
      ∙ both_out (has begin atom) (list_any (same_atom atom) (atoms_of (take i xs))) (same_atom atom key)
      ∙ ap (λ b. has begin atom && not b) (one_more atom)
    where
      both_out : (a b c : Bool) → ((a && not b) && not c) ≡ (a && not (b || c))
      both_out true true c = refl
      both_out true false c = refl
      both_out false b c = refl

  -- one more of the adds is in
  pub add_more : (kept : GroundAtom → Bool) (old new : BTreeSet GroundAtom) → ((atom : GroundAtom) → has old atom ≡ (kept atom || list_any (same_atom atom) (atoms_of (take i xs))))
      → Updates atom_cmp old new key true → (atom : GroundAtom) → has new atom ≡ (kept atom || list_any (same_atom atom) (atoms_of (take (i + 1) xs)))
  add_more kept old new before updates atom =
      has-insert old new key updates atom
      ∙ ap (λ b. b || same_atom atom key) (before atom)
      ∙ or_assoc (kept atom) (list_any (same_atom atom) (atoms_of (take i xs))) (same_atom atom key)
      ∙ ap (λ b. kept atom || b) (one_more atom)

-- one more of the initial facts is in
pub start_more : (xs : List GroundAtom) (i : ℕ) (x : GroundAtom) → slice_get xs i ≡ Some x → (key : GroundAtom) → key ≡ x → (old new : BTreeSet GroundAtom)
    → ((atom : GroundAtom) → has old atom ≡ list_any (same_atom atom) (take i xs)) → Updates atom_cmp old new key true
    → (atom : GroundAtom) → has new atom ≡ list_any (same_atom atom) (take (i + 1) xs)
start_more xs i x at key is old new before updates atom =
    has-insert old new key updates atom
    ∙ (λ j. before atom j || same_atom atom (is j))
    ∙ sym (list_any_item xs i x at (same_atom atom))

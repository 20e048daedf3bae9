-- Tests of equality on terms and atoms.
use Rattle.std.specs.Prelude.{ℕ, ◌==◌, ◌&&◌, Bool, false, List}
use Rattle.std.specs.Cmp.Lexicographic.{pointwise}
use Rattle.model_kit.specs.declared.atom.GroundAtom.{GroundAtom}
use Rattle.model_kit.specs.declared.atom.SchemaAtom.{SchemaAtom}
use Rattle.model_kit.specs.declared.atom.Term.{Term}
use Rattle.model_kit.specs.declared.atom.Term.TheVariants.{Param, Object}

-- texts as lists of bytes, and lists of objects
abbrev pub same_numbers : List ℕ → List ℕ → Bool
same_numbers = pointwise (λ x y. x == y)

abbrev pub same_term : Term → Term → Bool
same_term (Param i) (Param j) = i == j
same_term (Object i) (Object j) = i == j
same_term (Param i) (Object j) = false
same_term (Object i) (Param j) = false

abbrev pub same_atom : GroundAtom → GroundAtom → Bool
same_atom a b = (a.predicate == b.predicate) && same_numbers a.objects b.objects

abbrev pub same_schema_atom : SchemaAtom → SchemaAtom → Bool
same_schema_atom a b = (a.predicate == b.predicate) && pointwise same_term a.args b.args

-- What actions need and goals want, by lists that compute.
use Rattle.std.proofs.Common.{◌≡◌, false, [], ◌∷◌, map, sym, subst, ◌∙◌, arith, ⊎_elim}
use Rattle.std.specs.Prelude.{◌≢◌, Contains}
use Rattle.std.proofs.lemmas.Bool.{true≢false}
use Rattle.model_kit.specs.declared.atom.GroundAtom.{GroundAtom}
use Rattle.model_kit.specs.declared.action.GroundAction.{GroundAction}
use Rattle.model_kit.specs.declared.model.Model.{Model}
use Rattle.model_kit.specs.Same.{same_atom}
use Rattle.model_kit.specs.Places.{Goal, meaning}
use Rattle.model_kit.specs.Runs.{instance, Has, Needs}
use Rattle.model_kit.proofs.Alike.{same_atom-decides}
use Rattle.model_kit.proofs.StepLemmas.{listed_from_any}
use Rattle.model_kit.proofs.FirstLemmas.{cons_cases}
use Rattle.model_kit.proofs.PatchedLemmas.{listed_atoms, has_listed}
use Rattle.mre_base.proofs.Listed.{map-contains}

module _ (model : Model) where
  pub needed_listed : (action : GroundAction) (atom : GroundAtom) → Needs (meaning model) action atom → Contains (map (instance action.objects) (listed_atoms (λ s. s.pre) model action.schema)) atom
  needed_listed action atom (f, on, is) =
      subst (Contains (map (instance action.objects) (listed_atoms (λ s. s.pre) model action.schema))) is
      (map-contains (instance action.objects) (listed_atoms (λ s. s.pre) model action.schema) f (has_listed (λ s. s.pre) model action.schema f on))

  pub goal_listed : (atom : GroundAtom) → Has (meaning model) (Goal atom) → Contains model.goal atom
  goal_listed atom wanted = listed_from_any same_atom same_atom-decides atom model.goal wanted

pub in_one : {X : Type 0} (x y : X) → Contains (x ∷ []) y → y ≡ x
in_one x y at = ⊎_elim (λ same. same) (λ none. absurd (omega (arith, none.1))) (cons_cases x [] y at)

pub differ_by : (a b : GroundAtom) → same_atom a b ≡ false → a ≢ b
differ_by a b apart same = true≢false (sym ((same_atom-decides a b).1 same) ∙ apart)

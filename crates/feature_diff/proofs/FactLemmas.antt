-- The differences on initial facts and goal facts of two models.
use Rattle.std.proofs.Common.{◌≡◌, Bool, None, List, refl, subst, arith, ⊎_elim, inr}
use Rattle.std.specs.Prelude.{◌⊎◌, IsTrue, All, Contains}
use Rattle.std.specs.List.{flat_map}
use Rattle.std.proofs.lemmas.List.Elements.{All-contains}
use Rattle.model_kit.specs.declared.vocabulary.Vocabulary.{Vocabulary}
use Rattle.model_kit.specs.declared.atom.GroundAtom.{GroundAtom}
use Rattle.model_kit.specs.declared.model.Model.{Model}
use Rattle.model_kit.specs.Places as place
use Rattle.model_kit.specs.Places.{Place}
use Rattle.model_kit.specs.Same.{same_atom}
use Rattle.model_kit.specs.Differences.{group}
use Rattle.model_kit.specs.Printed.{atom_form}
use Rattle.model_kit.specs.Vocabulary.{is_ground_atom}
use Rattle.model_kit.proofs.Alike.{same_atom-decides}
use Rattle.model_kit.proofs.FormLemmas.{atom_form-injective}
use Rattle.model_kit.proofs.ModelFacts.{facts_of_model}
use Rattle.feature_diff.specs.declared.gathered.Gathered.{Gathered}
use Rattle.feature_diff.specs.declared.facts.FactKind.{FactKind}
use Rattle.feature_diff.specs.declared.facts.FactKind.TheVariants.{Init, Goal}
use Rattle.feature_diff.specs.Differing.{FitsWords}
use Rattle.feature_diff.specs.Gathering.{row_told, AllTold}
use Rattle.feature_diff.specs.Parts.{GainsGroup}
use Rattle.feature_diff.specs.Telling.{facts_of, fact_place, fact_group, fact_told}
use Rattle.feature_diff.proofs.GroupLemmas.{group_part}
use Rattle.feature_diff.proofs.FeatureLemmas.{AreFeatures, feature_tells}

own_facts_fit : (model : Model) (kind : FactKind) → All (λ a. IsTrue (is_ground_atom model.words a)) (facts_of kind model)
own_facts_fit model Init = (facts_of_model model).init_kept.fit
own_facts_fit model Goal = (facts_of_model model).goal_kept.fit

-- the facts of a model with these words fit them
pub facts_fit : (words : Vocabulary) (model : Model) → model.words ≡ words → (kind : FactKind) → All (λ a. IsTrue (is_ground_atom words a)) (facts_of kind model)
facts_fit words model same kind = subst (λ w. All (λ a. IsTrue (is_ground_atom w a)) (facts_of kind model)) same (own_facts_fit model kind)

fact_at : (words : Vocabulary) (kind : FactKind) (p : Place) → group words p ≡ fact_group kind → (a : GroundAtom) × (p ≡ fact_place kind a)
fact_at words Init (place.Init a) e = (a, refl)
fact_at words Init p e = absurd (omega arith)
fact_at words Goal (place.Goal a) e = (a, refl)
fact_at words Goal p e = absurd (omega arith)

module _ (planner user : Model) (joint : user.words ≡ planner.words) where
  either_fits : (kind : FactKind) (a : GroundAtom) → Contains (facts_of kind planner) a ⊎ Contains (facts_of kind user) a → IsTrue (is_ground_atom planner.words a)
  either_fits kind a there =
      ⊎_elim
      (λ in_p. All-contains (λ b. IsTrue (is_ground_atom planner.words b)) (facts_of kind planner) a (facts_fit planner.words planner refl kind) in_p)
      (λ in_u. All-contains (λ b. IsTrue (is_ground_atom planner.words b)) (facts_of kind user) a (facts_fit planner.words user joint kind) in_u)
      there

  fact_fits : (kind : FactKind) (a : GroundAtom) (has : Bool) → IsTrue (is_ground_atom planner.words a) → FitsWords planner.words (fact_told kind a has)
  fact_fits Init a has fit = fit
  fact_fits Goal a has fit = fit

  fact_features : (kind : FactKind)
      → AreFeatures planner user (fact_group kind) same_atom same_atom-decides (atom_form planner.words) (fact_place kind) (fact_told kind) (facts_of kind planner) (facts_of kind user)
  fact_features Init = record {
    printed_as = λ a. refl;
    in_group = λ a. refl;
    placed = λ a has. refl;
    planner_means = λ a. refl;
    user_means = λ a. refl;
    planner_content_is = λ a has. refl;
    user_content_is = λ a has. refl;
    fits = λ a has there. fact_fits Init a has (either_fits Init a there);
    apart = λ a b in_a in_b e. atom_form-injective planner.words a b (either_fits Init a in_a) (either_fits Init b in_b) e;
    places = λ p e. inr (fact_at planner.words Init p e);
  }
  fact_features Goal = record {
    printed_as = λ a. refl;
    in_group = λ a. refl;
    placed = λ a has. refl;
    planner_means = λ a. refl;
    user_means = λ a. refl;
    planner_content_is = λ a has. refl;
    user_content_is = λ a has. refl;
    fits = λ a has there. fact_fits Goal a has (either_fits Goal a there);
    apart = λ a b in_a in_b e. atom_form-injective planner.words a b (either_fits Goal a in_a) (either_fits Goal b in_b) e;
    places = λ p e. inr (fact_at planner.words Goal p e);
  }

  pub facts_gained : (kind : FactKind) (ps us : List GroundAtom) → ps ≡ facts_of kind planner → us ≡ facts_of kind user → (before after : Gathered)
      → AllTold (fact_told kind) (λ a b. None) (atom_form planner.words) ps us before after → GainsGroup planner user (fact_group kind) before after
  facts_gained kind ps us e f before after all =
      let told : AllTold (fact_told kind) (λ a b. None) (atom_form planner.words) (facts_of kind planner) (facts_of kind user) before after =
      subst (λ xs. AllTold (fact_told kind) (λ a b. None) (atom_form planner.words) xs (facts_of kind user) before after) e (subst (λ ys. AllTold (fact_told kind) (λ a b. None) (atom_form planner.words) ps ys before after) f all) in (
        flat_map (row_told (fact_told kind) (λ a b. None) (facts_of kind planner) (facts_of kind user)) told.0,
        group_part planner user (fact_group kind) (atom_form planner.words) (fact_place kind) (fact_told kind) (λ a b. None) (facts_of kind planner) (facts_of kind user)
            (feature_tells planner user (fact_group kind) same_atom same_atom-decides (atom_form planner.words) (fact_place kind) (fact_told kind) (facts_of kind planner) (facts_of kind user) (fact_features kind)) told.0 told.1,
        told.2,
      )

-- Cases say of each set of differences what the user's model has after it.
use Rattle.std.proofs.Common.{◌≡◌, ℕ, Bool, true, false, not, cond, List, refl, sym, ap, ◌∙◌, subst, inl, inr}
use Rattle.std.specs.Prelude.{◌↔◌}
use Rattle.std.specs.Option.{option_map_or}
use Rattle.std.specs.FinSet as set
use Rattle.std.proofs.lemmas.Bool.{false_from_ne_true}
use Rattle.cube_kit.specs.Cubes.{Told}
use Rattle.model_kit.specs.declared.atom.GroundAtom.{GroundAtom}
use Rattle.model_kit.specs.Places.{Place, Content}
use Rattle.model_kit.specs.Differences.{is_told}
use Rattle.model_kit.specs.Runs.{Has, is_on}
use Rattle.task_kit.specs.Tasks.{Numbers}
use Rattle.case_kit.specs.declared.cases.When.{When}
use Rattle.case_kit.specs.declared.cases.When.TheVariants.{Always, IfTold, IfLeft}
use Rattle.case_kit.specs.declared.cases.Case.{Case}
use Rattle.case_kit.specs.Members.{holds, atoms_after}
use Rattle.case_kit.proofs.CaseLists.{in_where, where_has}
use Rattle.named_tables.specs.Models.{Models, after_told, EitherHas}
use Rattle.named_tables.specs.Tables.{IsNumber, IsWhen, AreCases}
use Rattle.model_kit.proofs.NumberLemmas.{told_is}

-- the numbers of the set are those of the atoms with a property
abbrev pub AreNumbered : (GroundAtom → ℕ) → (GroundAtom → Type 0) → Numbers → Type 0
AreNumbered number IsSo numbers = (i : ℕ) → (set.contains numbers i ≡ true) ↔ ((atom : GroundAtom) × IsSo atom × (number atom ≡ i))

module _ (models : Models) (told : Told) where
  -- the number of the difference at a place decides whether the place is told
  pub told_by : (place : Place) (k : ℕ) → IsNumber models place k → is_told 1 models.places (set.contains told) place ≡ set.contains told k
  told_by place k is = told_is 1 models.places (set.contains told) place ∙ ap (λ o. option_map_or (set.contains told) o false) is

  on_in : (b : Bool) (p u : Content) → is_on (cond b p u) ≡ cond b (is_on p) (is_on u)
  on_in true p u = refl
  on_in false p u = refl

  on_is : (place : Place) → is_on (after_told models told place) ≡ cond (is_told 1 models.places (set.contains told) place) (is_on (models.planner place)) (is_on (models.user place))
  on_is place = on_in (is_told 1 models.places (set.contains told) place) (models.planner place) (models.user place)

  same_either : (b : Bool) → cond b true true ≡ true
  same_either true = refl
  same_either false = refl

  is_itself : (b : Bool) → cond b true false ≡ b
  is_itself true = refl
  is_itself false = refl

  is_reverse : (b : Bool) → cond b false true ≡ not b
  is_reverse true = refl
  is_reverse false = refl

  -- a feature is there after the differences exactly where its condition holds
  pub when_holds : (place : Place) (when : When) → IsWhen models place when → is_on (after_told models told place) ≡ holds told when
  when_holds place Always (planner, user) =
      on_is place ∙ (λ i. cond (is_told 1 models.places (set.contains told) place) (planner i) (user i)) ∙ same_either (is_told 1 models.places (set.contains told) place)
  when_holds place (IfTold k) (is, planner, user) =
      on_is place ∙ (λ i. cond (told_by place k is i) (planner i) (false_from_ne_true (is_on (models.user place)) user i)) ∙ is_itself (set.contains told k)
  when_holds place (IfLeft k) (is, planner, user) =
      on_is place ∙ (λ i. cond (told_by place k is i) (false_from_ne_true (is_on (models.planner place)) planner i) (user i)) ∙ is_reverse (set.contains told k)

  -- what is there after the differences is there in one of the models, and what both have is there
  pub either_has : (place : Place) → Has (after_told models told) place → EitherHas models place
  either_has place on = by (is_told 1 models.places (set.contains told) place) (sym (on_is place) ∙ on)
    where
      by : (b : Bool) → cond b (is_on (models.planner place)) (is_on (models.user place)) ≡ true → EitherHas models place
      by true e = inl e
      by false e = inr e

  pub both_have : (place : Place) → Has models.planner place → Has models.user place → Has (after_told models told) place
  both_have place planner user = when_holds place Always (planner, user)

  -- the atoms of the cases that hold are those of the features that are there
  pub case_numbers : (number : GroundAtom → ℕ) (F : Type 0) (place : F → Place) (atom : F → GroundAtom) (cases : List Case) → AreCases models number F place atom cases
      → AreNumbered number (λ a. (f : F) × Has (after_told models told) (place f) × (atom f ≡ a)) (atoms_after told cases)
  case_numbers number F place atom cases are i = (
    λ there. let (case, among, on, is) = in_where (holds told) cases i there in
        let (f, (named, when)) = are.each case among in
        (atom f, (f, when_holds (place f) case.when when ∙ on, refl), named ∙ is),
    λ (a, (f, on, made), is). let (case, among, (named, when)) = are.all f (either_has (place f) on) in
        subst (λ k. set.contains (atoms_after told cases) k ≡ true) (sym named ∙ ap number made ∙ is)
        (where_has (holds told) cases case among (sym (when_holds (place f) case.when when) ∙ on)),
  )

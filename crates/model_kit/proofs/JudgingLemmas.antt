-- What is known after some steps of a plan, and what the loop over the steps answers.
use Rattle.std.proofs.Common.{◌≡◌, ℕ, ◌+◌, ◌*◌, ◌<◌, ◌≤◌, ◌^◌, List, [], ◌∷◌, ◌++◌, length, take, drop, Some, refl, sym, ap, subst, ◌∙◌, arith}
use Rattle.std.specs.Prelude.{All, unwrap_or, slice_get}
use Rattle.std.specs.List.{list_any}
use Rattle.std.proofs.lemmas.List.{take-append-drop, take_all, length-take-le}
use Rattle.std.proofs.lemmas.Option.{slice_get_within}
use Rattle.std.proofs.lemmas.List.Sums.{sum_by-append}
use Rattle.std.proofs.lemmas.List.Elements.{All-contains}
use Rattle.std.specs.BTreeSet.{BTreeSet}
use Rattle.model_kit.specs.declared.vocabulary.Vocabulary.{Vocabulary}
use Rattle.model_kit.specs.declared.atom.GroundAtom.{GroundAtom}
use Rattle.model_kit.specs.declared.action.GroundAction.{GroundAction}
use Rattle.model_kit.specs.declared.model.Model.{Model}
use Rattle.model_kit.specs.declared.judging.NamedJudgement.TheVariants.{Valid, Fails, NoCost, GoalMissing}
use Rattle.model_kit.specs.declared.judging.Step.TheVariants.{Taken, Unmet, Unpriced}
use Rattle.model_kit.specs.Same.{same_atom}
use Rattle.model_kit.specs.Places.{Meaning, meaning}
use Rattle.model_kit.specs.Runs.{State, cost_of, Needs, Applies, After, Leads, Initial, IsGoal, cost}
use Rattle.model_kit.specs.Judgement.{IsFirstPrinted, Lacks, IsOpen, StopsAt, Judges}
use Rattle.model_kit.specs.Judging.{has, StateOf, IsMissing, Steps}
use Rattle.model_kit.proofs.Alike.{same_atom-decides}
use Rattle.mre_base.proofs.Loops.{take_item, drop_item}
use Rattle.model_kit.proofs.StepLemmas.{listed_from_any, any_from_listed}
use Rattle.model_kit.proofs.RunLemmas.{Alike, applies_alike, after_alike, leads_weaker, leads_join}

-- the steps before a place lead to the state, and cost this much
pub record Reached (model : Meaning) (plan : List GroundAction) (place : ℕ) (state : BTreeSet GroundAtom) (total : ℕ) : Type 0 where
  pub leads : Leads model (Initial model) (take place plan) (λ s. Alike s (StateOf state))
  pub priced : total ≡ cost model (take place plan)
  pub bounded : total ≤ place * 4294967295

module _ (model : Meaning) where
  module _ (plan : List GroundAction) (place : ℕ) (action : GroundAction) (at : slice_get plan place ≡ Some action) (old : BTreeSet GroundAtom) (total : ℕ) (reached : Reached model plan place old total) where
    -- one more step
    pub reached_more : (words : Vocabulary) (new : BTreeSet GroundAtom) (price : ℕ) → price < 2 ^ 32 → Steps words model action old new (Taken price) → Reached model plan (place + 1) new (total + price)
    reached_more words new price small taken = record {
      leads = subst (λ xs. Leads model (Initial model) xs (λ s. Alike s (StateOf new))) (sym (take_item plan place action at))
          (leads_join model (λ s. Alike s (StateOf new)) (Initial model) (take place plan) (action ∷ [])
          (leads_weaker model (λ s. Alike s (StateOf old)) (λ s. Applies model s action × Alike (After model s action) (StateOf new)) stepped (Initial model) (take place plan) reached.leads));
      priced = added ∙ ap (cost model) (sym (take_item plan place action at));
      bounded = omega (arith, reached.bounded);
    }
      where
        turned : (s : State) → Alike s (StateOf old) → Alike (StateOf old) s
        turned s alike atom = ((alike atom).1, (alike atom).0)

        stepped : (s : State) → Alike s (StateOf old) → Applies model s action × Alike (After model s action) (StateOf new)
        stepped s alike = (
          applies_alike model (StateOf old) s action (turned s alike) taken.0,
          λ atom. (
            λ after. (taken.2 atom).1 ((after_alike model s (StateOf old) action alike atom).0 after),
            λ there. (after_alike model s (StateOf old) action alike atom).1 ((taken.2 atom).0 there),
          ),
        )

        price_is : price ≡ unwrap_or (cost_of model action) 0
        price_is = sym (ap (λ o. unwrap_or o 0) taken.1)

        added : total + price ≡ cost model (take place plan ++ action ∷ [])
        added = omega (arith, reached.priced, price_is, sum_by-append (λ a. unwrap_or (cost_of model a) 0) (take place plan) (action ∷ []))

    -- the plan stops at this step
    stop_here : (Q : State → Type 0) → ((s : State) → Alike s (StateOf old) → Q s) → (step : ℕ) → step ≡ place + 1 → StopsAt model plan step action Q
    stop_here Q gives step is = record {
      before = take place plan;
      after = drop (place + 1) plan;
      split = sym (take-append-drop place plan) ∙ ap (λ xs. take place plan ++ xs) (drop_item plan place action at);
      number = is ∙ ap (λ n. n + 1) (sym (length-take-le place plan (omega (arith, slice_get_within plan place action at))));
      leads = leads_weaker model (λ s. Alike s (StateOf old)) Q gives (Initial model) (take place plan) reached.leads;
    }

    pub fails_here : (words : Vocabulary) (new : BTreeSet GroundAtom) (atom : GroundAtom) → Steps words model action old new (Unmet atom) → (step : ℕ) → step ≡ place + 1 → Judges words model plan (Fails step atom)
    fails_here words new atom unmet step is = (
      action,
      stop_here (λ s. IsFirstPrinted words (Lacks model action s) atom) (λ s alike. record {
        has = (unmet.has.0, λ there. unmet.has.1 ((alike atom).0 there));
        first = λ other lacks differs. unmet.first other (lacks.0, λ there. lacks.1 ((alike other).1 there)) differs;
      }) step is,
    )

    pub no_cost_here : (words : Vocabulary) (new : BTreeSet GroundAtom) → Steps words model action old new Unpriced → (step : ℕ) → step ≡ place + 1 → Judges words model plan (NoCost step)
    no_cost_here words new unpriced step is = (
      action,
      unpriced.1,
      stop_here (λ s. (atom : GroundAtom) → Needs model action atom → s atom) (λ s alike atom needs. (alike atom).1 (unpriced.0 atom needs)) step is,
    )

module _ (model : Model) (plan : List GroundAction) (place : ℕ) (state : BTreeSet GroundAtom) (total : ℕ) (reached : Reached (meaning model) plan place state total) (all : length plan ≤ place) where
  whole : take place plan ≡ plan
  whole = take_all place plan all

  through : Leads (meaning model) (Initial (meaning model)) plan (λ s. Alike s (StateOf state))
  through = subst (λ xs. Leads (meaning model) (Initial (meaning model)) xs (λ s. Alike s (StateOf state))) whole reached.leads

  -- all steps apply, and the goal facts are there
  pub valid_at_end : All (StateOf state) model.goal → (words : Vocabulary) → Judges words (meaning model) plan (Valid total)
  valid_at_end there words = (
    leads_weaker (meaning model) (λ s. Alike s (StateOf state)) (IsGoal (meaning model))
        (λ s alike atom goal. (alike atom).1 (All-contains (StateOf state) model.goal atom there (listed_from_any same_atom same_atom-decides atom model.goal goal))) (Initial (meaning model)) plan through,
    reached.priced ∙ ap (cost (meaning model)) whole,
  )

  -- all steps apply, and a goal fact isn't there
  pub open_at_end : (words : Vocabulary) (atom : GroundAtom) → IsFirstPrinted words (IsMissing model.goal state) atom → Judges words (meaning model) plan (GoalMissing atom)
  open_at_end words atom missing =
      leads_weaker (meaning model) (λ s. Alike s (StateOf state)) (λ s. IsFirstPrinted words (IsOpen (meaning model) s) atom)
      (λ s alike. record {
        has = (any_from_listed same_atom same_atom-decides atom model.goal missing.has.0, λ there. missing.has.1 ((alike atom).0 there));
        first = λ other opened differs. missing.first other (listed_from_any same_atom same_atom-decides other model.goal opened.0, λ there. opened.1 ((alike other).1 there)) differs;
      }) (Initial (meaning model)) plan through

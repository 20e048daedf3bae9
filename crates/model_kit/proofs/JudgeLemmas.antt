-- A plan has one judgement.
use Rattle.std.proofs.Common.{◌≡◌, ℕ, ◌<◌, List, ◌∷◌, ◌++◌, sym, ap, subst, ◌∙◌, arith, ⊎_elim}
use Rattle.std.specs.Prelude.{◌≢◌, IsNone, IsSome}
use Rattle.std.specs.Ordering.{nat_cmp}
use Rattle.std.specs.declared.cmp.Ordering.TheVariants.{Less, Equal}
use Rattle.std.specs.Cmp.Lexicographic.{slice_cmp, nat_list_cmp_total}
use Rattle.std.proofs.lemmas.Bool.{true≢false, cases_Bool, cases_order}
use Rattle.std.proofs.lemmas.Cmp.{tied_itself}
use Rattle.model_kit.specs.declared.vocabulary.Vocabulary.{Vocabulary}
use Rattle.model_kit.specs.declared.atom.GroundAtom.{GroundAtom}
use Rattle.model_kit.specs.declared.action.GroundAction.{GroundAction}
use Rattle.model_kit.specs.declared.judging.NamedJudgement.{NamedJudgement}
use Rattle.model_kit.specs.declared.judging.NamedJudgement.TheVariants.{Valid, Fails, NoCost, GoalMissing}
use Rattle.model_kit.specs.Same.{same_atom}
use Rattle.model_kit.specs.Places.{Meaning}
use Rattle.model_kit.specs.Printed.{atom_form}
use Rattle.model_kit.specs.Runs.{State, cost_of, Needs, Applies, Leads, Initial, IsGoal}
use Rattle.model_kit.specs.Judgement.{IsFirstPrinted, Lacks, IsOpen, StopsAt, Judges}
use Rattle.model_kit.proofs.Alike.{same_atom-decides}
use Rattle.model_kit.proofs.RunLemmas.{leads_weaker, leads_constant, leads_both, leads_split, split_same, split_later}
use Rattle.mre_base.proofs.OneList.{less_one_way}

-- one atom is printed first
pub first_printed_once : (words : Vocabulary) (P : GroundAtom → Type 0) (a b : GroundAtom) → IsFirstPrinted words P a → IsFirstPrinted words P b → a ≡ b
first_printed_once words P a b one two =
    ⊎_elim (λ same. (same_atom-decides a b).0 same)
    (λ other.
    let apart : a ≢ b = λ is. true≢false (sym ((same_atom-decides a b).1 is) ∙ other) in
    absurd (less_one_way (atom_form words a) (atom_form words b) (one.first b two.has (λ is. apart (sym is))) (two.first a one.has apart)))
    (cases_Bool (same_atom a b))

module _ (model : Meaning) (plan : List GroundAction) where
  -- a plan that runs through stops nowhere
  no_stop : (Q R : State → Type 0) (step : ℕ) (action : GroundAction) → Leads model (Initial model) plan R → StopsAt model plan step action Q → ((s : State) → Q s → ¬ Applies model s action) → ⊥
  no_stop Q R step action leads stop stuck =
      let whole : Leads model (Initial model) (stop.before ++ action ∷ stop.after) R = subst (λ p. Leads model (Initial model) p R) stop.split leads in
      let there = leads_split model R (Initial model) stop.before (action ∷ stop.after) whole in
      leads_constant model ⊥ (Initial model) stop.before
      (leads_weaker model (λ s. Leads model s (action ∷ stop.after) R × Q s) (λ _. ⊥) (λ s both. stuck s both.1 both.0.0) (Initial model) stop.before
      (leads_both model (λ s. Leads model s (action ∷ stop.after) R) Q (Initial model) stop.before there stop.leads))

  -- a plan that stops at a step doesn't come to a later one
  no_later : (Q R : State → Type 0) (step later : ℕ) (action other : GroundAction) → step < later → StopsAt model plan step action Q → StopsAt model plan later other R → ((s : State) → Q s → ¬ Applies model s action) → ⊥
  no_later Q R step later action other lt stop further stuck =
      let splits : stop.before ++ action ∷ stop.after ≡ further.before ++ other ∷ further.after = sym stop.split ∙ further.split in
      let between = split_later stop.before further.before action other stop.after further.after (omega (arith, stop.number, further.number)) splits in
      let whole : Leads model (Initial model) (stop.before ++ action ∷ between.0) R = subst (λ p. Leads model (Initial model) p R) between.1 further.leads in
      let there = leads_split model R (Initial model) stop.before (action ∷ between.0) whole in
      leads_constant model ⊥ (Initial model) stop.before
      (leads_weaker model (λ s. Leads model s (action ∷ between.0) R × Q s) (λ _. ⊥) (λ s both. stuck s both.1 both.0.0) (Initial model) stop.before
      (leads_both model (λ s. Leads model s (action ∷ between.0) R) Q (Initial model) stop.before there stop.leads))

  -- two stops are at one step, with one action and one state
  pub stops_together : (Q R : State → Type 0) (step later : ℕ) (action other : GroundAction) → StopsAt model plan step action Q → StopsAt model plan later other R
      → ((s : State) → Q s → ¬ Applies model s action) → ((s : State) → R s → ¬ Applies model s other)
      → (step ≡ later) × (action ≡ other) × ((P : Type 0) → ((s : State) → Q s → R s → P) → P)
  stops_together Q R step later action other stop further stuck stuck_too =
      ⊎_elim
      (λ same.
      let splits : stop.before ++ action ∷ stop.after ≡ further.before ++ other ∷ further.after = sym stop.split ∙ further.split in
      let parts = split_same stop.before further.before action other stop.after further.after (omega (arith, stop.number, further.number, same)) splits in
      let moved : Leads model (Initial model) stop.before R = subst (λ b. Leads model (Initial model) b R) (sym parts.0) further.leads in (
        same,
        parts.1,
        λ P gives. leads_constant model P (Initial model) stop.before
            (leads_weaker model (λ s. Q s × R s) (λ _. P) (λ s both. gives s both.0 both.1) (Initial model) stop.before (leads_both model Q R (Initial model) stop.before stop.leads moved)),
      ))
      (⊎_elim (λ lt. absurd (no_later Q R step later action other lt stop further stuck)) (λ lt. absurd (no_later R Q later step other action lt further stop stuck_too)))
      (cases_order step later)

module _ (words : Vocabulary) (model : Meaning) (plan : List GroundAction) where
  -- an action that lacks a precondition, or has no cost, doesn't apply
  lacking : (action : GroundAction) (atom : GroundAtom) (s : State) → IsFirstPrinted words (Lacks model action s) atom → ¬ Applies model s action
  lacking action atom s first applies = first.has.1 (applies.met atom first.has.0)

  unpriced : (action : GroundAction) → IsNone (cost_of model action) → ¬ IsSome (cost_of model action)
  unpriced action none some = true≢false (sym some ∙ none)

  -- a plan has one judgement
  pub judgement_once : (i j : NamedJudgement) → Judges words model plan i → Judges words model plan j → i ≡ j
  judgement_once (Valid total) (Valid other) one two = ap Valid (one.1 ∙ sym two.1)
  judgement_once (Valid total) (Fails step atom) one (action, stop) = absurd (no_stop model plan _ (IsGoal model) step action one.0 stop (lacking action atom))
  judgement_once (Valid total) (NoCost step) one (action, none, stop) = absurd (no_stop model plan _ (IsGoal model) step action one.0 stop (λ s met applies. unpriced action none applies.priced))
  judgement_once (Valid total) (GoalMissing atom) one two =
      absurd (leads_constant model ⊥ (Initial model) plan
      (leads_weaker model (λ s. IsGoal model s × IsFirstPrinted words (IsOpen model s) atom) (λ _. ⊥) (λ s both. both.1.has.1 (both.0 atom both.1.has.0)) (Initial model) plan
      (leads_both model (IsGoal model) (λ s. IsFirstPrinted words (IsOpen model s) atom) (Initial model) plan one.0 two)))
  judgement_once (Fails step atom) (Valid total) (action, stop) two = absurd (no_stop model plan _ (IsGoal model) step action two.0 stop (lacking action atom))
  judgement_once (Fails step atom) (Fails later other) (action, stop) (next, further) =
      let together = stops_together model plan _ _ step later action next stop further (lacking action atom) (lacking next other) in
      let is : atom ≡ other = together.2 (atom ≡ other) (λ s one two. first_printed_once words (Lacks model action s) atom other one (subst (λ a. IsFirstPrinted words (Lacks model a s) other) (sym together.1) two)) in
      λ i. Fails (together.0 i) (is i)
  judgement_once (Fails step atom) (NoCost later) (action, stop) (next, none, further) =
      let together = stops_together model plan _ _ step later action next stop further (lacking action atom) (λ s met applies. unpriced next none applies.priced) in
      absurd (together.2 ⊥ (λ s one two. one.has.1 (two atom (subst (λ a. Needs model a atom) together.1 one.has.0))))
  judgement_once (Fails step atom) (GoalMissing other) (action, stop) two = absurd (no_stop model plan _ _ step action two stop (lacking action atom))
  judgement_once (NoCost step) (Valid total) (action, none, stop) two = absurd (no_stop model plan _ (IsGoal model) step action two.0 stop (λ s met applies. unpriced action none applies.priced))
  judgement_once (NoCost step) (Fails later other) (action, none, stop) (next, further) =
      let together = stops_together model plan _ _ step later action next stop further (λ s met applies. unpriced action none applies.priced) (lacking next other) in
      absurd (together.2 ⊥ (λ s one two. two.has.1 (one other (subst (λ a. Needs model a other) (sym together.1) two.has.0))))
  judgement_once (NoCost step) (NoCost later) (action, none, stop) (next, none_too, further) =
      let together = stops_together model plan _ _ step later action next stop further (λ s met applies. unpriced action none applies.priced) (λ s met applies. unpriced next none_too applies.priced) in
      ap NoCost together.0
  judgement_once (NoCost step) (GoalMissing other) (action, none, stop) two = absurd (no_stop model plan _ _ step action two stop (λ s met applies. unpriced action none applies.priced))
  judgement_once (GoalMissing atom) (Valid total) one two =
      absurd (leads_constant model ⊥ (Initial model) plan
      (leads_weaker model (λ s. IsGoal model s × IsFirstPrinted words (IsOpen model s) atom) (λ _. ⊥) (λ s both. both.1.has.1 (both.0 atom both.1.has.0)) (Initial model) plan
      (leads_both model (IsGoal model) (λ s. IsFirstPrinted words (IsOpen model s) atom) (Initial model) plan two.0 one)))
  judgement_once (GoalMissing atom) (Fails step other) one (action, stop) = absurd (no_stop model plan _ _ step action one stop (lacking action other))
  judgement_once (GoalMissing atom) (NoCost step) one (action, none, stop) = absurd (no_stop model plan _ _ step action one stop (λ s met applies. unpriced action none applies.priced))
  judgement_once (GoalMissing atom) (GoalMissing other) one two =
      ap GoalMissing (leads_constant model (atom ≡ other) (Initial model) plan
      (leads_weaker model (λ s. IsFirstPrinted words (IsOpen model s) atom × IsFirstPrinted words (IsOpen model s) other) (λ _. atom ≡ other) (λ s both. first_printed_once words (IsOpen model s) atom other both.0 both.1) (Initial model) plan
      (leads_both model (λ s. IsFirstPrinted words (IsOpen model s) atom) (λ s. IsFirstPrinted words (IsOpen model s) other) (Initial model) plan one two)))

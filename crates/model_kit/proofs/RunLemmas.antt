-- Runs: what holds of the state that actions lead to, and that a run depends on which atoms are in its states and on nothing else.
use Rattle.std.proofs.Common.{◌≡◌, ◌<◌, List, [], ◌∷◌, ◌++◌, length, refl, sym, ap, arith, ⊎_elim, inl, inr}
use Rattle.std.specs.Prelude.{◌↔◌}
use Rattle.model_kit.specs.declared.atom.GroundAtom.{GroundAtom}
use Rattle.model_kit.specs.declared.action.GroundAction.{GroundAction}
use Rattle.model_kit.specs.Places.{Meaning}
use Rattle.model_kit.specs.Runs.{State, Applies, After, Leads}

-- two states have the same atoms
abbrev pub Alike : State → State → Type 0
Alike s t = (atom : GroundAtom) → s atom ↔ t atom

module _ (model : Meaning) where
  pub applies_alike : (s t : State) (action : GroundAction) → Alike s t → Applies model s action → Applies model t action
  applies_alike s t action alike applies = record { priced = applies.priced; met = λ atom needs. (alike atom).0 (applies.met atom needs) }

  pub after_alike : (s t : State) (action : GroundAction) → Alike s t → Alike (After model s action) (After model t action)
  after_alike s t action alike atom = (
    λ after. ⊎_elim (λ kept. inl ((alike atom).0 kept.0, kept.1)) (λ adds. inr adds) after,
    λ after. ⊎_elim (λ kept. inl ((alike atom).1 kept.0, kept.1)) (λ adds. inr adds) after,
  )

  -- what holds of the last state, in a weaker form
  pub leads_weaker : (Q R : State → Type 0) → ((s : State) → Q s → R s) → (s : State) (actions : List GroundAction) → Leads model s actions Q → Leads model s actions R
  leads_weaker Q R gives s [] leads = gives s leads
  leads_weaker Q R gives s (action ∷ actions) leads = (leads.0, leads_weaker Q R gives (After model s action) actions leads.1)

  -- what holds at the end whatever the state is
  pub leads_constant : (P : Type 0) (s : State) (actions : List GroundAction) → Leads model s actions (λ _. P) → P
  leads_constant P s [] leads = leads
  leads_constant P s (action ∷ actions) leads = leads_constant P (After model s action) actions leads.1

  -- two facts of the last state at once
  pub leads_both : (Q R : State → Type 0) (s : State) (actions : List GroundAction) → Leads model s actions Q → Leads model s actions R → Leads model s actions (λ t. Q t × R t)
  leads_both Q R s [] first second = (first, second)
  leads_both Q R s (action ∷ actions) first second = (first.0, leads_both Q R (After model s action) actions first.1 second.1)

  -- a run of one list and then of another
  pub leads_join : (Q : State → Type 0) (s : State) (xs ys : List GroundAction) → Leads model s xs (λ t. Leads model t ys Q) → Leads model s (xs ++ ys) Q
  leads_join Q s [] ys leads = leads
  leads_join Q s (x ∷ xs) ys leads = (leads.0, leads_join Q (After model s x) xs ys leads.1)

  pub leads_split : (Q : State → Type 0) (s : State) (xs ys : List GroundAction) → Leads model s (xs ++ ys) Q → Leads model s xs (λ t. Leads model t ys Q)
  leads_split Q s [] ys leads = leads
  leads_split Q s (x ∷ xs) ys leads = (leads.0, leads_split Q (After model s x) xs ys leads.1)

  -- a run from a state with the same atoms
  pub leads_alike : (Q R : State → Type 0) → ((s t : State) → Alike s t → Q s → R t) → (s t : State) → Alike s t → (actions : List GroundAction) → Leads model s actions Q → Leads model t actions R
  leads_alike Q R gives s t alike [] leads = gives s t alike leads
  leads_alike Q R gives s t alike (action ∷ actions) leads =
      (applies_alike s t action alike leads.0, leads_alike Q R gives (After model s action) (After model t action) (after_alike s t action alike) actions leads.1)

-- two splits of a list at the same place are equal
pub split_same : {X : Type 0} (b c : List X) (x y : X) (after more : List X) → length b ≡ length c → b ++ x ∷ after ≡ c ++ y ∷ more → (b ≡ c) × (x ≡ y)
split_same [] [] x y after more same e = let head : x ≡ y = cc in (refl, head)
split_same [] (z ∷ c) x y after more same e = absurd (omega arith)
split_same (w ∷ b) [] x y after more same e = absurd (omega arith)
split_same (w ∷ b) (z ∷ c) x y after more same e =
    let head : w ≡ z = cc in
    let rest : b ++ x ∷ after ≡ c ++ y ∷ more = cc in
    let deeper = split_same b c x y after more (omega arith) rest in
    ((λ i. head i ∷ deeper.0 i), deeper.1)

-- a split further on has the earlier one before it
pub split_later : {X : Type 0} (b c : List X) (x y : X) (after more : List X) → length b < length c → b ++ x ∷ after ≡ c ++ y ∷ more → (between : List X) × (c ≡ b ++ x ∷ between)
split_later b [] x y after more lt e = absurd (omega arith)
split_later [] (z ∷ c) x y after more lt e = let head : x ≡ z = cc in (c, ap (λ v. v ∷ c) (sym head))
split_later (w ∷ b) (z ∷ c) x y after more lt e =
    let head : w ≡ z = cc in
    let rest : b ++ x ∷ after ≡ c ++ y ∷ more = cc in
    let deeper = split_later b c x y after more (omega arith) rest in
    (deeper.0, λ i. sym head i ∷ deeper.1 i)

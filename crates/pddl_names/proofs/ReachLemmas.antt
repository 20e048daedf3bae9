-- In a forest a number reaches another exactly where the other is above it, or above the parent of its root.
use Rattle.std.proofs.Common.{◌≡◌, ℕ, ◌+◌, ◌-◌, ◌<◌, ◌≤◌, zero, suc, List, length, refl, sym, ap, subst, ◌∙◌, arith, ⊎_elim, inl, inr}
use Rattle.std.specs.Prelude.{◌⊎◌, slice_index}
use Rattle.std.proofs.lemmas.Bool.{cases_lt}
use Rattle.pddl_names.specs.declared.forests.Node.{Node}
use Rattle.pddl_names.specs.Forests.{up, climb, Reaches, node_at, IsForest, IsStep}
use Rattle.pddl_names.proofs.GrowLemmas.{climb_add}

-- what is known after some steps up
pub record IsSteppedFrom (ups : List ℕ) (nodes : List Node) (from at due : ℕ) : Type 0 where
  pub steps : ℕ
  pub climbs : climb ups steps from ≡ at
  pub deep : (node_at nodes at).depth + steps ≡ (node_at nodes from).depth
  pub above : due ≤ (node_at nodes at).depth

module _ (ups : List ℕ) (nodes : List Node) (forest : IsForest ups nodes) where
  abbrev depth : ℕ → ℕ
  depth v = (node_at nodes v).depth

  abbrev root : ℕ → ℕ
  root v = (node_at nodes v).root

  pub climb_inside : (n v : ℕ) → v < length ups → climb ups n v < length ups
  climb_inside zero v lt = lt
  climb_inside (suc n) v lt = forest.ups_within (climb ups n v) (climb_inside n v lt)

  pub root_up : (v : ℕ) → v < length ups → root (up ups v) ≡ root v
  root_up v lt = (forest.placed v lt).same (forest.ups_within v lt)

  root_climb : (n v : ℕ) → v < length ups → root (climb ups n v) ≡ root v
  root_climb zero v lt = refl
  root_climb (suc n) v lt = root_up (climb ups n v) (climb_inside n v lt) ∙ root_climb n v lt

  -- a number that is not at depth 0 is one deeper than its parent
  depth_up : (v : ℕ) → v < length ups → 0 < depth v → depth v ≡ suc (depth (up ups v))
  depth_up v lt deep = ⊎_elim (λ at_root. absurd (omega (arith, deep, at_root.1))) (λ child. child.2) (forest.placed v lt).stands

  root_top : (v : ℕ) → v < length ups → depth v ≡ 0 → root v ≡ v
  root_top v lt top = ⊎_elim (λ at_root. at_root.0) (λ child. absurd (omega (arith, top, child.2))) (forest.placed v lt).stands

  pub depth_climb : (n v : ℕ) → v < length ups → n ≤ depth v → depth (climb ups n v) + n ≡ depth v
  depth_climb zero v lt le = omega arith
  depth_climb (suc n) v lt le =
      let before = depth_climb n v lt (omega (arith, le)) in
      let here = depth_up (climb ups n v) (climb_inside n v lt) (omega (arith, before, le)) in
      omega (arith, before, here)

  root_is : (v : ℕ) → v < length ups → climb ups (depth v) v ≡ root v
  root_is v lt =
      let le : depth v ≤ depth v = omega arith in
      let all = depth_climb (depth v) v lt le in
      sym (root_top (climb ups (depth v) v) (climb_inside (depth v) v lt) (omega (arith, all))) ∙ root_climb (depth v) v lt

  pub root_inside : (v : ℕ) → v < length ups → root v < length ups
  root_inside v lt = subst (λ k. k < length ups) (root_is v lt) (climb_inside (depth v) v lt)

  root_root : (v : ℕ) → v < length ups → root (root v) ≡ root v
  root_root v lt = ap root (sym (root_is v lt)) ∙ root_climb (depth v) v lt

  -- a number is above another in its tree
  abbrev pub Under : ℕ → ℕ → Type 0
  Under a b = (depth b ≤ depth a) × (climb ups (depth a - depth b) a ≡ b)

  near_under : (a b n : ℕ) → a < length ups → n ≤ depth a → climb ups n a ≡ b → Under a b
  near_under a b n lt le is =
      let all = depth_climb n a lt le in
      let deep : depth b + n ≡ depth a = ap (λ k. depth k + n) (sym is) ∙ all in
      let steps : depth a - depth b ≡ n = omega (arith, deep) in
      (omega (arith, deep), ap (λ k. climb ups k a) steps ∙ is)

  -- from above the root of a tree one comes round to it
  far : (bound a b n : ℕ) → n < bound → a < length ups → climb ups n a ≡ b → Under a b ⊎ Under (up ups (root a)) b
  far zero a b n lt inside is = absurd (omega (arith, lt))
  far (suc bound) a b n lt inside is =
      ⊎_elim
      (λ deeper.
      let over = up ups (root a) in
      let over_inside = forest.ups_within (root a) (root_inside a inside) in
      let rest : n ≡ n - suc (depth a) + suc (depth a) = omega (arith, deeper) in
      let there : climb ups (n - suc (depth a)) over ≡ b =
      (ap (climb ups (n - suc (depth a))) (ap (slice_index ups) (sym (root_is a inside))) ∙ sym (climb_add ups (n - suc (depth a)) (suc (depth a)) a) ∙ ap (λ k. climb ups k a) (sym rest) ∙ is) in
      let same : root over ≡ root a = root_up (root a) (root_inside a inside) ∙ root_root a inside in
      inr (⊎_elim (λ under. under) (λ under. subst (λ r. Under (up ups r) b) same under) (far bound over b (n - suc (depth a)) (omega (arith, lt, deeper)) over_inside there)))
      (λ near. inl (near_under a b n inside near is))
      (cases_lt (depth a) n)

  pub reach_under : (a b : ℕ) → a < length ups → Reaches ups a b → Under a b ⊎ Under (up ups (root a)) b
  reach_under a b lt reach = far (suc reach.0) a b reach.0 (omega arith) lt reach.1

  pub under_reach : (a b : ℕ) → a < length ups → Under a b ⊎ Under (up ups (root a)) b → Reaches ups a b
  under_reach a b lt (inl near) = (depth a - depth b, near.1)
  under_reach a b lt (inr over) =
      let steps = depth (up ups (root a)) - depth b in
      (steps + suc (depth a), climb_add ups steps (suc (depth a)) a ∙ ap (climb ups steps) (ap (slice_index ups) (root_is a lt)) ∙ over.1)

  -- ---- a step

  pub jump_step : (from due : ℕ) → from < length ups → due < depth from → due ≤ depth (node_at nodes from).jump → IsStep ups nodes from (node_at nodes from).jump due
  jump_step from due lt deep le =
      let jump = (forest.placed from lt).jumps in
      record { steps = jump.steps; moves = jump.moves (omega (arith, deep)); climbs = jump.climbs; deep = jump.deep; above = le }

  pub up_step : (from due : ℕ) → from < length ups → due < depth from → IsStep ups nodes from (up ups from) due
  up_step from due lt deep =
      let here = depth_up from lt (omega (arith, deep)) in
      record { steps = 1; moves = omega arith; climbs = refl; deep = omega (arith, here); above = omega (arith, here, deep) }

  pub stepped_start : (from due : ℕ) → due ≤ depth from → IsSteppedFrom ups nodes from from due
  stepped_start from due le = record { steps = 0; climbs = refl; deep = omega arith; above = le }

  pub stepped_more : (from at next due : ℕ) → IsSteppedFrom ups nodes from at due → IsStep ups nodes at next due → IsSteppedFrom ups nodes from next due
  stepped_more from at next due old step = record {
    steps = step.steps + old.steps;
    climbs = climb_add ups step.steps old.steps from ∙ ap (climb ups step.steps) old.climbs ∙ step.climbs;
    deep = omega (arith, step.deep, old.deep);
    above = step.above;
  }

  pub stepped_inside : (from at due : ℕ) → from < length ups → IsSteppedFrom ups nodes from at due → at < length ups
  stepped_inside from at due lt old = subst (λ k. k < length ups) old.climbs (climb_inside old.steps from lt)

  pub stepped_end : (from at due : ℕ) → IsSteppedFrom ups nodes from at due → depth at ≤ due → at ≡ climb ups (depth from - due) from
  stepped_end from at due old le =
      let count : old.steps ≡ depth from - due = omega (arith, old.deep, old.above, le) in
      sym old.climbs ∙ ap (λ k. climb ups k from) count

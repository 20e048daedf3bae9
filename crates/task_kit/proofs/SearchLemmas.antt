-- A plain search, step by step: what noting a successor leaves, which nodes are settled, and what
-- follows if no node is open.
use Rattle.std.proofs.Common.{◌≡◌, ◌≢◌, ℕ, ◌+◌, ◌≤◌, ◌<◌, true, false, is_some, List, [], ◌∷◌, ◌++◌, length, reverse, Option, Some, None, slice_get, ◌⊎◌, inl, inr, refl, sym, ap, ◌∙◌, subst, arith}
use Rattle.std.proofs.lemmas.Bool.{false≢true, and_parts}
use Rattle.std.proofs.lemmas.List.{reverse-append, append_assoc, append-nil}
use Rattle.std.specs.FinSet as set
use Rattle.mre_base.specs.Sets.{BitSet}
use Rattle.task_kit.specs.declared.reached.SearchNode.{SearchNode}
use Rattle.task_kit.specs.Tasks.{Numbers, TaskMeaning, as_bits, price, applies, after, cost_of}
use Rattle.task_kit.specs.Bounds.{HasNoCheaper, IsFar, IsExpanded, IsKnownWithin, Shows, IsCheapestBelow}
use Rattle.task_kit.specs.Judged.{state_after, DoApply}
use Rattle.task_kit.specs.Queues.{IsOpen, Takes}
use Rattle.task_kit.specs.Reached.{Reached, StaysIn, IsIndexed, HasNode, IsBeaten, nothing, Adds, Notes}
use Rattle.task_kit.specs.Searching.{HasState, IsKnown, IsRoot, IsStep, IsTrail, Grows, IsReached, IsDone, AreSettled, AreSettledBut, IsFound, IsPathBack}
use Rattle.task_kit.proofs.BoundLemmas.{no_cheaper}
use Rattle.task_kit.proofs.CutWeights.{none_at}
use Rattle.task_kit.proofs.JudgeLemmas.{state_after-push, do_apply-push, cost_of-push, valid_from}
use Rattle.std.proofs.lemmas.Option.{none-some, slice_get_within}
use Rattle.mre_base.proofs.Options.{same_some}
use Rattle.mre_base.proofs.Listed.{item_at}
use Rattle.task_kit.proofs.PlaceLemmas.{stays_push, last_push, push_cases, length_pushed}
use Rattle.task_kit.proofs.ReachedLemmas.{node_of}

-- ---- growth
pub grows_same : (r : Reached) → Grows r r
grows_same r = record { states = λ i x e. e; nodes = λ i x e. e; open_nodes = λ at w. w; added = λ at node e. inl e; longer = omega arith; counted = refl }

pub grows_trans : (a b c : Reached) → Grows a b → Grows b c → Grows a c
grows_trans a b c one two =
    record {
      states = λ i x e. two.states i x (one.states i x e);
      nodes = λ i x e. two.nodes i x (one.nodes i x e);
      open_nodes = λ at w. two.open_nodes at (one.open_nodes at w);
      added = λ at node e.
          elim (two.added at node e) [
            | inl old ↦ elim (one.added at node old) [ inl older ↦ inl older | inr w ↦ inr (two.open_nodes at w) ]
            | inr w ↦ inr w
          ];
      longer = omega (arith, one.longer, two.longer);
      counted = omega (arith, one.counted, two.counted);
    }

-- ---- the path back, with one more step at its end
pub back_none : (nodes : List SearchNode) (place : ℕ) (back : List ℕ) → back ≡ [] → (rest : List ℕ) → IsPathBack nodes place rest → IsPathBack nodes place (back ++ rest)
back_none nodes place back e rest is = subst (λ xs. IsPathBack nodes place (xs ++ rest)) (sym e) is

pub back_more : (nodes : List SearchNode) (place at : ℕ) (back new : List ℕ) (node : SearchNode) → at ≢ 0 → slice_get nodes at ≡ Some node → new ≡ back ++ node.action ∷ []
    → ((rest : List ℕ) → IsPathBack nodes at rest → IsPathBack nodes place (back ++ rest)) → (rest : List ℕ) → IsPathBack nodes node.parent rest → IsPathBack nodes place (new ++ rest)
back_more nodes place at back new node later here e is rest more =
    subst (IsPathBack nodes place) (sym (ap (λ xs. xs ++ rest) e ∙ append_assoc back (node.action ∷ []) rest)) (is (node.action ∷ rest) (later, node, here, refl, more))

pub back_all : (nodes : List SearchNode) (place at : ℕ) (back : List ℕ) → at ≡ 0 → ((rest : List ℕ) → IsPathBack nodes at rest → IsPathBack nodes place (back ++ rest)) → IsPathBack nodes place back
back_all nodes place at back e is = subst (IsPathBack nodes place) (append-nil back) (is [] e)

-- the path back doesn't depend on the open list
pub back_over : (r s : Reached) (place : ℕ) (back : List ℕ) → s ≡ record { states = r.states; last = r.last; nodes = r.nodes; open_nodes = s.open_nodes } → IsPathBack s.nodes place back → IsPathBack r.nodes place back
back_over r s place back e is = subst (λ x. IsPathBack x.nodes place back) e is

module _ (task : TaskMeaning) where
  same_numbers : (s t : Numbers) (bits : BitSet) → bits ≡ as_bits task s → bits ≡ as_bits task t → s ≡ t
  same_numbers s t bits es et = ap (λ b. b.members) (sym es ∙ et)

  -- the state of a node is unique
  one_state : (r : Reached) (node : SearchNode) (s t : Numbers) → HasState task r node s → HasState task r node t → s ≡ t
  one_state r node s t one two = ap (λ b. b.members) (same_some (as_bits task s) (as_bits task t) (sym one ∙ two))

  known_kept : (old new : Reached) (state : Numbers) (cost : ℕ) → StaysIn old.states new.states → StaysIn old.nodes new.nodes → IsKnown task old state cost → IsKnown task new state cost
  known_kept old new state cost states nodes (at, node, here, leads, costs) = (at, node, nodes at node here, states node.state _ leads, costs)

  within_kept : (old new : Reached) (state : Numbers) (cost : ℕ) → Grows old new → IsKnownWithin (IsKnown task old) state cost → IsKnownWithin (IsKnown task new) state cost
  within_kept old new state cost grows (smaller, known, le) = (smaller, known_kept old new state smaller grows.states grows.nodes known, le)

  pub reached_kept : (k : ℕ) (old new : Reached) (state : Numbers) (cost action : ℕ) → Grows old new → IsReached task k old state cost action → IsReached task k new state cost action
  reached_kept k old new state cost action grows is does =
      elim (is does) [
        | inl le ↦ inl le
        | inr w ↦ inr (within_kept old new (after task action state) (cost + price task action) grows w)
      ]

  -- ---- a noted successor
  module _ (old new : Reached) (at bound action cost : ℕ) (node : SearchNode) (from into : BitSet) (trail : IsTrail task old) (here : slice_get old.nodes at ≡ Some node)
      (leads : slice_get old.states node.state ≡ Some from) (wide : from.width ≡ task.atoms + 1) (does : applies task action from.members ≡ true)
      (paid : cost ≡ node.cost + price task action) (is : into ≡ as_bits task (after task action from.members)) where
    from_is : from ≡ as_bits task from.members
    from_is = λ i. record { width = wide i; members = from.members }

    new_grows : Adds old into cost at action new → Grows old new
    new_grows adds =
        record {
          states = adds.states;
          nodes = λ i x e. ap (λ xs. slice_get xs i) adds.nodes ∙ stays_push old.nodes _ i x e;
          open_nodes = adds.open_nodes.others;
          added = λ i x e.
              elim (push_cases old.nodes _ i x (sym (ap (λ xs. slice_get xs i) adds.nodes) ∙ e)) [
                | inl h ↦ inl h
                | inr h ↦ inr (subst (IsOpen new.open_nodes) (sym h.0) adds.open_nodes.is_open)
              ];
          longer = omega (arith, ap length adds.nodes ∙ length_pushed old.nodes _);
          counted = omega (arith, ap length adds.nodes ∙ length_pushed old.nodes _, adds.open_nodes.one_more);
        }

    pub notes_grow : Notes old into cost at action new → Grows old new
    notes_grow notes = elim notes [ inl adds ↦ new_grows adds | inr same ↦ subst (Grows old) (sym same.0) (grows_same old) ]

    old_each : (adds : Adds old into cost at action new) (i : ℕ) (x : SearchNode) → IsRoot task old i x ⊎ IsStep task old i x → IsRoot task new i x ⊎ IsStep task new i x
    old_each adds i x each =
        let grows = new_grows adds in
        elim each [
          | inl root ↦ inl (root.0, grows.states x.state _ root.1, root.2)
          | inr step ↦
              inr (record {
                parent = step.parent;
                state = step.state;
                earlier = step.earlier;
                there = grows.nodes x.parent step.parent step.there;
                from = grows.states step.parent.state _ step.from;
                does = step.does;
                to = grows.states x.state _ step.to;
                costs = step.costs;
              })
        ]

    new_each : (adds : Adds old into cost at action new) (i : ℕ) (x : SearchNode) → (i ≡ length old.nodes) × (x ≡ node_of adds.place cost at action) → IsRoot task new i x ⊎ IsStep task new i x
    new_each adds i x h =
        let grows = new_grows adds in
        subst (λ w. IsRoot task new i w ⊎ IsStep task new i w) (sym h.1)
        (inr (record {
          parent = node;
          state = from.members;
          earlier = omega (arith, h.0, slice_get_within old.nodes at node here);
          there = grows.nodes at node here;
          from = grows.states node.state _ (leads ∙ ap Some from_is);
          does = does;
          to = adds.here ∙ ap Some is;
          costs = paid;
        }))

    new_trail : IsIndexed new → Adds old into cost at action new → IsTrail task new
    new_trail indexed adds =
        record {
          indexed = indexed;
          each = λ i x e.
              elim (push_cases old.nodes _ i x (sym (ap (λ xs. slice_get xs i) adds.nodes) ∙ e)) [
                | inl h ↦ old_each adds i x (trail.each i x h)
                | inr h ↦ new_each adds i x h
              ];
          start = known_kept old new task.start 0 adds.states (new_grows adds).nodes trail.start;
          open_within = λ i w.
              let longer = ap length adds.nodes ∙ length_pushed old.nodes (node_of adds.place cost at action) in
              elim (adds.open_nodes.only i w) [
                | inl e ↦ omega (arith, longer)
                | inr h ↦ omega (arith, longer, trail.open_within i h)
              ];
        }

    pub notes_trail : IsIndexed new → Notes old into cost at action new → IsTrail task new
    notes_trail indexed notes = elim notes [ inl adds ↦ new_trail indexed adds | inr same ↦ subst (IsTrail task) (sym same.0) trail ]

    pub notes_reach : Notes old into cost at action new → IsReached task bound new from.members node.cost action
    notes_reach notes does_now =
        inr (elim notes [
          | inl adds ↦ (cost, (length old.nodes, node_of adds.place cost at action, ap (λ xs. slice_get xs (length old.nodes)) adds.nodes ∙ last_push old.nodes _, adds.here ∙ ap Some is, refl), omega arith)
          | inr same ↦ subst (λ r. IsKnownWithin (IsKnown task r) (after task action from.members) (node.cost + price task action)) (sym same.0) (known_now same.1)
        ])
      where
        known_now : HasNode old into cost → IsKnownWithin (IsKnown task old) (after task action from.members) (node.cost + price task action)
        known_now (i, x, there, to, le) = (x.cost, (i, x, there, to ∙ ap Some is, refl), omega arith)

  -- ---- nodes for which nothing remains to be done
  -- a node is still of the same state
  led : (old new : Reached) (at : ℕ) (node : SearchNode) (state : Numbers) → IsIndexed old → StaysIn old.states new.states → slice_get old.nodes at ≡ Some node → HasState task new node state → HasState task old node state
  led old new at node state indexed states here leads =
      let there = item_at old.states node.state (indexed.stated at node here) in
      there.1 ∙ ap Some (same_some there.0 (as_bits task state) (sym (states node.state there.0 there.1) ∙ leads))

  done_kept : (k j : ℕ) (old new : Reached) (at : ℕ) (node : SearchNode) → k ≤ j → IsIndexed old → Grows old new → slice_get old.nodes at ≡ Some node → IsDone task j old node → IsDone task k new node
  done_kept k j old new at node le indexed grows here done state leads =
      elim (done state (led old new at node state indexed grows.states here leads)) [
        | inl dear ↦ inl (omega arith)
        | inr o ↦ inr (elim o [
          | inl expanded ↦ inl (record {
            lacks_goal = expanded.lacks_goal;
            successors = λ action does.
                elim (expanded.successors action does) [
                  | inl far ↦ inl (less far)
                  | inr w ↦ inr (within_kept old new _ _ grows w)
                ];
          })
          | inr beaten ↦ inr (beaten.0, known_kept old new state beaten.0 grows.states grows.nodes beaten.1, beaten.2)
        ])
      ]
    where
      less : {n : ℕ} → j ≤ n → k ≤ n
      less h = omega arith

  -- the expanded node is done, and the others stay so
  pub settled_more : (k : ℕ) (old new : Reached) (but : ℕ) (node : SearchNode) → IsIndexed old → Grows old new → slice_get old.nodes but ≡ Some node → IsDone task k new node → AreSettledBut task k old but → AreSettled task k new
  settled_more k old new but node indexed grows here done settled at x e =
      elim (grows.added at x e) [
        | inl was ↦ elim (settled at x was) [
          | inl same ↦ inr (subst (IsDone task k new) (same_some node x (sym here ∙ ap (slice_get old.nodes) (sym same) ∙ was)) done)
          | inr o ↦ elim o [
            | inl w ↦ inl (grows.open_nodes at w)
            | inr d ↦ inr (done_kept k k old new at x (omega arith) indexed grows was d)
          ]
        ]
        | inr w ↦ inl w
      ]

  -- a goal was reached below the bound
  pub settled_less : (k j : ℕ) (r : Reached) (but : ℕ) (node : SearchNode) → k ≤ j → IsIndexed r → slice_get r.nodes but ≡ Some node → k ≤ node.cost → AreSettledBut task j r but → AreSettled task k r
  settled_less k j r but node le indexed here dear settled at x e =
      elim (settled at x e) [
        | inl same ↦ inr (λ state leads. inl (subst (λ w. k ≤ w.cost) (same_some node x (sym here ∙ ap (slice_get r.nodes) (sym same) ∙ e)) dear))
        | inr o ↦ elim o [
          | inl w ↦ inl w
          | inr d ↦ inr (done_kept k j r r at x le indexed (grows_same r) e d)
        ]
      ]

  -- nothing remains to be done for a node that is too dear or beaten
  pub done_dear : (k : ℕ) (r : Reached) (node : SearchNode) → k ≤ node.cost → IsDone task k r node
  done_dear k r node dear state leads = inl dear

  pub done_beaten : (k : ℕ) (r : Reached) (node : SearchNode) → IsBeaten r node → IsDone task k r node
  done_beaten k r node (at, other, here, same, less) state leads = inr (inr (other.cost, (at, other, here, ap (slice_get r.states) same ∙ leads, refl), less))

  pub done_expanded : (k : ℕ) (r : Reached) (node : SearchNode) (from : BitSet) → slice_get r.states node.state ≡ Some from → set.is_subset task.goal from.members ≡ false
      → ((action : ℕ) → IsReached task k r from.members node.cost action) → IsDone task k r node
  done_expanded k r node from here lacks reached state leads =
      let same : from.members ≡ state = ap (λ b. b.members) (same_some from (as_bits task state) (sym here ∙ leads)) in
      inr (inl (record {
        lacks_goal = ap (λ s. set.is_subset task.goal s) (sym same) ∙ lacks;
        successors = λ action. subst (λ s. IsReached task k r s node.cost action) same (reached action);
      }))

  -- an action that isn't listed never applies
  pub unlisted : (k : ℕ) (r : Reached) (state : Numbers) (cost action : ℕ) → length task.actions ≤ action → IsReached task k r state cost action
  unlisted k r state cost action past does = absurd (false≢true (sym (ap (λ a. is_some a.cost) (none_at task.actions action past)) ∙ (and_parts _ _ does).0))

  -- ---- no node is open
  shown : (k : ℕ) (r : Reached) → IsTrail task r → AreSettled task k r → ((at : ℕ) → ¬ IsOpen r.open_nodes at) → Shows task k (IsKnown task r)
  shown k r trail settled empty = record { start = λ low. trail.start; each = each } where
    far : (state : Numbers) (number cost : ℕ) → cost ≡ number → k ≤ cost → IsFar task k state number
    far state number cost e dear list valid = omega arith

    by_done : (state : Numbers) (number : ℕ) (node : SearchNode) → node.cost ≡ number → HasState task r node state → IsDone task k r node
        → IsExpanded task k (IsKnown task r) state number ⊎ IsFar task k state number ⊎ ((smaller : ℕ) × IsKnown task r state smaller × (smaller < number))
    by_done state number node e leads done =
        elim (done state leads) [
          | inl dear ↦ inr (inl (far state number node.cost e dear))
          | inr o ↦ elim o [
            | inl expanded ↦ inl (subst (IsExpanded task k (IsKnown task r) state) e expanded)
            | inr beaten ↦ inr (inr (beaten.0, beaten.1, omega (arith, beaten.2)))
          ]
        ]

    each : (state : Numbers) (number : ℕ) → IsKnown task r state number
        → IsExpanded task k (IsKnown task r) state number ⊎ IsFar task k state number ⊎ ((smaller : ℕ) × IsKnown task r state smaller × (smaller < number))
    each state number (at, node, here, leads, costs) =
        elim (settled at node here) [ inl w ↦ absurd (empty at w) | inr done ↦ by_done state number node costs leads done ]

  pub none_cheaper : (k : ℕ) (r : Reached) → IsTrail task r → AreSettled task k r → ((at : ℕ) → ¬ IsOpen r.open_nodes at) → HasNoCheaper task k
  none_cheaper k r trail settled empty = no_cheaper task k (IsKnown task r) (shown k r trail settled empty)

  -- ---- the path back
  -- the list of a node's path applies from the start, leads to the node's state, and costs as much
  -- as the node
  abbrev pub IsWalk : List ℕ → Numbers → ℕ → Type 0
  IsWalk list state cost = DoApply task task.start list × (state_after task task.start list ≡ state) × (cost_of task list ≡ cost)

  walk_more : (back : List ℕ) (action : ℕ) (from to : Numbers) (before cost : ℕ) → applies task action from ≡ true → after task action from ≡ to → cost ≡ before + price task action → IsWalk (reverse back) from before → IsWalk (reverse (action ∷ back)) to cost
  walk_more back action from to before cost does is paid (applied, reached, costs) =
      subst (λ list. IsWalk list to cost) (sym (reverse-append (action ∷ []) back)) (
        do_apply-push task task.start (reverse back) action applied (ap (applies task action) reached ∙ does),
        state_after-push task task.start (reverse back) action ∙ ap (after task action) reached ∙ is,
        cost_of-push task (reverse back) action ∙ sum (cost_of task (reverse back)) costs,
      )
    where
      sum : (c : ℕ) → c ≡ before → c + price task action ≡ cost
      sum c e = omega arith

  pub walked_back : (r : Reached) → IsTrail task r → (back : List ℕ) (at : ℕ) (node : SearchNode) (state : Numbers) → IsPathBack r.nodes at back → slice_get r.nodes at ≡ Some node → HasState task r node state → IsWalk (reverse back) state node.cost
  walked_back r trail [] at node state first here leads =
      elim (trail.each at node here) [
        | inl root ↦ (tt, one_state r node task.start state root.1 leads, sym root.2)
        | inr step ↦ absurd (no_earlier step.earlier)
      ]
    where
      no_earlier : node.parent < at → ⊥
      no_earlier lt = absurd (omega arith)
  walked_back r trail (action ∷ back) at node state (later, last, there, is, rest) here leads =
      elim (trail.each at node here) [
        | inl root ↦ absurd (later root.0)
        | inr step ↦ by_step step (walked_back r trail back node.parent step.parent step.state (subst (λ w. IsPathBack r.nodes w.parent back) same rest) step.there step.from)
      ]
    where
      same : last ≡ node
      same = same_some last node (sym there ∙ here)

      acts : node.action ≡ action
      acts = sym (ap (λ w. w.action) same) ∙ is

      by_step : (step : IsStep task r at node) → IsWalk (reverse back) step.state step.parent.cost → IsWalk (reverse (action ∷ back)) state node.cost
      by_step step walk =
          walk_more back action step.state state step.parent.cost node.cost (subst (λ a. applies task a step.state ≡ true) acts step.does)
          (ap (λ a. after task a step.state) (sym acts) ∙ one_state r node (after task node.action step.state) state step.to leads) (step.costs ∙ ap (λ a. step.parent.cost + price task a) acts) walk

  -- the list of the goal node that set the bound is a cheapest one
  pub found_cheapest : (first bound at : ℕ) (r : Reached) (back list : List ℕ) → IsTrail task r → HasNoCheaper task bound → IsFound task r first bound (Some at) → IsPathBack r.nodes at back → list ≡ reverse back → IsCheapestBelow task first (Some list)
  found_cheapest first bound at r back list trail none (lower, node, state, here, leads, reached, costs) is e =
      let walk = subst (λ xs. IsWalk xs state node.cost) (sym e) (walked_back r trail back at node state is here leads) in
      let spent : cost_of task list ≡ bound = walk.2 ∙ costs in (
        valid_from task task.start list walk.0 (ap (λ s. set.is_subset task.goal s) walk.1 ∙ reached),
        subst (λ n. n < first) (sym spent) lower,
        subst (HasNoCheaper task) (sym spent) none,
      )

  -- ---- the table
  -- each node is of a state of the task
  pub leads_somewhere : (r : Reached) (at : ℕ) (node : SearchNode) → IsTrail task r → slice_get r.nodes at ≡ Some node → (state : Numbers) × HasState task r node state
  leads_somewhere r at node trail here =
      elim (trail.each at node here) [
        | inl root ↦ (task.start, root.1)
        | inr step ↦ (after task node.action step.state, step.to)
      ]

  pub width_at : (r : Reached) (at : ℕ) (node : SearchNode) (bits : BitSet) → IsTrail task r → slice_get r.nodes at ≡ Some node → slice_get r.states node.state ≡ Some bits → bits.width ≡ task.atoms + 1
  width_at r at node bits trail here is =
      let leads = leads_somewhere r at node trail here in
      ap (λ b. b.width) (same_some bits (as_bits task leads.0) (sym is ∙ leads.1))

  pub parents_earlier : (r : Reached) → IsTrail task r → (at : ℕ) (node : SearchNode) → slice_get r.nodes at ≡ Some node → at ≢ 0 → node.parent < at
  parents_earlier r trail at node here later =
      elim (trail.each at node here) [ inl root ↦ absurd (later root.0) | inr step ↦ step.earlier ]

  pub found_kept : (old new : Reached) (first bound : ℕ) (foil : Option ℕ) → Grows old new → IsFound task old first bound foil → IsFound task new first bound foil
  found_kept old new first bound None grows found = found
  found_kept old new first bound (Some at) grows (lower, node, state, here, leads, reached, costs) = (lower, node, state, grows.nodes at node here, grows.states node.state _ leads, reached, costs)

  pub found_goal : (r : Reached) (first old at : ℕ) (foil : Option ℕ) (node : SearchNode) (from : BitSet) → IsTrail task r → slice_get r.nodes at ≡ Some node → slice_get r.states node.state ≡ Some from
      → set.is_subset task.goal from.members ≡ true → node.cost < old → IsFound task r first old foil → IsFound task r first node.cost (Some at)
  found_goal r first old at foil node from trail here is reached less found =
      (omega (arith, bound_falls foil found), node, from.members, here, is ∙ ap Some (λ i. record { width = width_at r at node from trail here is i; members = from.members }), reached, refl)
    where
      bound_falls : (o : Option ℕ) → IsFound task r first old o → old ≤ first
      bound_falls None e = omega arith
      bound_falls (Some place) h = omega (arith, h.0)

  -- one node was taken out of the open list
  module _ (r : Reached) (left : List (ℕ × ℕ)) (at : ℕ) (takes : Takes r.open_nodes at left) where
    abbrev rest_of : Reached
    rest_of = record { states = r.states; last = r.last; nodes = r.nodes; open_nodes = left }

    taken_trail : IsTrail task r → IsTrail task (record { states = r.states; last = r.last; nodes = r.nodes; open_nodes = left })
    taken_trail trail =
        record {
          indexed = record { sized = trail.indexed.sized; held = trail.indexed.held; stated = trail.indexed.stated };
          each = λ i x e.
              elim (trail.each i x e) [
                | inl root ↦ inl root
                | inr step ↦ inr (record { parent = step.parent; state = step.state; earlier = step.earlier; there = step.there; from = step.from; does = step.does; to = step.to; costs = step.costs })
              ];
          start = trail.start;
          open_within = λ i w. trail.open_within i (takes.only i w);
        }

    taken_settled : (k : ℕ) → AreSettled task k r → AreSettledBut task k (record { states = r.states; last = r.last; nodes = r.nodes; open_nodes = left }) at
    taken_settled k settled i x e =
        elim (settled i x e) [
          | inl w ↦ elim (takes.others i w) [ inl same ↦ inl same | inr stays ↦ inr (inl stays) ]
          | inr done ↦ inr (inr (done_same done))
        ]
      where
        done_same : IsDone task k r x → IsDone task k rest_of x
        done_same done state leads =
            elim (done state leads) [
              | inl dear ↦ inl dear
              | inr o ↦ inr (elim o [
                | inl expanded ↦ inl (record { lacks_goal = expanded.lacks_goal; successors = expanded.successors })
                | inr beaten ↦ inr beaten
              ])
            ]

    taken_within : IsTrail task r → at < length r.nodes
    taken_within trail = trail.open_within at takes.was_open

  -- the table after a node was taken
  pub taken : (r s : Reached) (at k : ℕ) → Takes r.open_nodes at s.open_nodes → s ≡ record { states = r.states; last = r.last; nodes = r.nodes; open_nodes = s.open_nodes } → IsTrail task r → AreSettled task k r
      → IsTrail task s × AreSettledBut task k s at × (at < length s.nodes)
  taken r s at k takes rest trail settled =
      subst (λ x. IsTrail task x × AreSettledBut task k x at × (at < length x.nodes)) (sym rest)
      (taken_trail r s.open_nodes at takes trail, taken_settled r s.open_nodes at takes k settled, taken_within r s.open_nodes at takes trail)

  pub found_taken : (r s : Reached) (first bound : ℕ) (foil : Option ℕ) → s ≡ record { states = r.states; last = r.last; nodes = r.nodes; open_nodes = s.open_nodes } → IsFound task r first bound foil → IsFound task s first bound foil
  found_taken r s first bound None rest found = found
  found_taken r s first bound (Some at) rest (lower, node, state, here, leads, reached, costs) =
      (lower, node, state, ap (λ x. slice_get x.nodes at) rest ∙ here, ap (λ x. slice_get x.states node.state) rest ∙ leads, reached, costs)

  pub found_none : (r : Reached) (first bound : ℕ) (foil : Option ℕ) → foil ≡ None → IsFound task r first bound foil → bound ≡ first
  found_none r first bound foil e found = subst (IsFound task r first bound) e found

  pub found_within : (r s : Reached) (first bound place : ℕ) (foil : Option ℕ) → foil ≡ Some place → s ≡ record { states = r.states; last = r.last; nodes = r.nodes; open_nodes = s.open_nodes } → IsFound task r first bound foil → place < length s.nodes
  found_within r s first bound place foil e rest found =
      let there = subst (IsFound task r first bound) e found in
      subst (λ x. place < length x.nodes) (sym rest) (slice_get_within r.nodes place there.1 there.3)

  -- the table whose only node is the start
  pub started : (k : ℕ) (r : Reached) (start : BitSet) → start ≡ as_bits task task.start → IsIndexed r → Adds nothing start 0 0 0 r → IsTrail task r × AreSettled task k r
  started k r start is indexed adds = (
    record {
      indexed = indexed;
      each = λ i x e. subst (λ w. IsRoot task r i w ⊎ IsStep task r i w) (sym (one_node i x e).1) (inl ((one_node i x e).0, adds.here ∙ ap Some is, refl));
      start = (0, node_of adds.place 0 0 0, ap (λ xs. slice_get xs 0) adds.nodes, adds.here ∙ ap Some is, refl);
      open_within = λ i w. elim (adds.open_nodes.only i w) [ inl e ↦ omega (arith, e, ap length adds.nodes) | inr none ↦ absurd (none_open i none) ];
    },
    λ i x e. inl (subst (IsOpen r.open_nodes) (sym (one_node i x e).0) adds.open_nodes.is_open),
  )
    where
      one_node : (i : ℕ) (x : SearchNode) → slice_get r.nodes i ≡ Some x → (i ≡ 0) × (x ≡ node_of adds.place 0 0 0)
      one_node i x e = elim (push_cases [] (node_of adds.place 0 0 0) i x (sym (ap (λ xs. slice_get xs i) adds.nodes) ∙ e)) [ inl none ↦ absurd (none-some x none) | inr h ↦ h ]

      none_open : (i : ℕ) → IsOpen [] i → ⊥
      none_open i (cost, (place, lt, e)) = absurd (omega arith)

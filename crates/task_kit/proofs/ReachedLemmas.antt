-- After each change of a table, each state's latest node is of that state, and each node is of a
-- state.
use Rattle.std.proofs.Common.{◌≡◌, ℕ, ◌+◌, ◌≤◌, ◌<◌, [], ◌∷◌, ◌++◌, length, Some, slice_get, slice_set, ◌⊎◌, inl, inr, sym, ap, ◌∙◌, subst, arith}
use Rattle.mre_base.specs.Sets.{BitSet}
use Rattle.task_kit.specs.declared.reached.SearchNode.{SearchNode}
use Rattle.task_kit.specs.Queues.{Puts}
use Rattle.task_kit.specs.Reached.{Reached, IsIndexed, HasNode, IsBeaten, Adds}
use Rattle.std.proofs.lemmas.Option.{slice_get_within}
use Rattle.mre_base.proofs.Listed.{item_at}
use Rattle.std.proofs.lemmas.List.{length-set}
use Rattle.task_kit.proofs.PlaceLemmas.{stays_push, last_push, push_cases, length_pushed, set_cases}

-- a node from its parts
abbrev pub node_of : (state cost parent action : ℕ) → SearchNode
node_of state cost parent action = record { state = state; cost = cost; parent = parent; action = action }

module _ (r : Reached) (indexed : IsIndexed r) where
  last_there : (place : ℕ) (state : BitSet) → slice_get r.states place ≡ Some state → (at : ℕ) × (slice_get r.last place ≡ Some at)
  last_there place state here = item_at r.last place (omega (arith, indexed.sized, slice_get_within r.states place state here))

  -- the latest node of a state is one of the nodes
  pub last_within : (place at : ℕ) → slice_get r.last place ≡ Some at → at < length r.nodes
  last_within place at here = let h = indexed.held place at here in slice_get_within r.nodes at h.0 h.1

  -- the latest node of a known state costs no more
  pub knows : (place cost last : ℕ) (state : BitSet) → slice_get r.states place ≡ Some state → ((at : ℕ) (node : SearchNode) → slice_get r.last place ≡ Some at → slice_get r.nodes at ≡ Some node → last ≡ node.cost) → last ≤ cost → HasNode r state cost
  knows place cost last state here says le =
      let l = last_there place state here in
      let h = indexed.held place l.0 l.1 in
      (l.0, h.0, h.1, ap (slice_get r.states) h.2 ∙ here, subst (λ n. n ≤ cost) (says l.0 h.0 l.1 h.1) le)

  -- a node whose state has a cheaper latest node
  pub beaten : (node : SearchNode) (last : ℕ) → node.state < length r.states → ((at : ℕ) (other : SearchNode) → slice_get r.last node.state ≡ Some at → slice_get r.nodes at ≡ Some other → last ≡ other.cost) → last < node.cost → IsBeaten r node
  beaten node last stated says lt =
      let there : node.state < length r.last = omega (arith, indexed.sized) in
      let l = item_at r.last node.state there in
      let h = indexed.held node.state l.0 l.1 in
      (l.0, h.0, h.1, h.2, subst (λ n. n < node.cost) (says l.0 h.0 l.1 h.1) lt)

  -- ---- one more node
  module _ (new : Reached) (place cost parent action : ℕ) (nodes : new.nodes ≡ r.nodes ++ node_of place cost parent action ∷ []) where
    old_node : (at : ℕ) (node : SearchNode) → slice_get r.nodes at ≡ Some node → slice_get new.nodes at ≡ Some node
    old_node at node e = ap (λ xs. slice_get xs at) nodes ∙ stays_push r.nodes (node_of place cost parent action) at node e

    new_node : (at : ℕ) → at ≡ length r.nodes → slice_get new.nodes at ≡ Some (node_of place cost parent action)
    new_node at e = ap (slice_get new.nodes) e ∙ ap (λ xs. slice_get xs (length r.nodes)) nodes ∙ last_push r.nodes (node_of place cost parent action)

    node_cases : (at : ℕ) (node : SearchNode) → slice_get new.nodes at ≡ Some node → (slice_get r.nodes at ≡ Some node) ⊎ ((at ≡ length r.nodes) × (node ≡ node_of place cost parent action))
    node_cases at node e = push_cases r.nodes (node_of place cost parent action) at node (sym (ap (λ xs. slice_get xs at) nodes) ∙ e)

    stated_more : place < length new.states → length r.states ≤ length new.states → (at : ℕ) (node : SearchNode) → slice_get new.nodes at ≡ Some node → node.state < length new.states
    stated_more lt le at node e =
        elim (node_cases at node e) [
          | inl old ↦ omega (arith, indexed.stated at node old)
          | inr is ↦ subst (λ n. n < length new.states) (sym (ap (λ w. w.state) is.1)) lt
        ]

  -- the latest node of a state is now the new one
  pub improved : (new : Reached) (place cost parent action : ℕ) (state : BitSet) → slice_get r.states place ≡ Some state → new.states ≡ r.states → new.last ≡ slice_set r.last place (length r.nodes)
      → new.nodes ≡ r.nodes ++ node_of place cost parent action ∷ [] → Puts r.open_nodes (length r.nodes) new.open_nodes
      → IsIndexed new × Adds r state cost parent action new
  improved new place cost parent action state here states last nodes open_nodes =
      let within : place < length new.states = omega (arith, slice_get_within r.states place state here, ap length states) in (
        record {
          sized = ap length last ∙ length-set r.last place (length r.nodes) ∙ indexed.sized ∙ sym (ap length states);
          held = held;
          stated = stated_more new place cost parent action nodes within (omega (arith, ap length states));
        },
        record {
          place = place;
          here = ap (λ xs. slice_get xs place) states ∙ here;
          states = λ i x e. ap (λ xs. slice_get xs i) states ∙ e;
          nodes = nodes;
          open_nodes = open_nodes;
        },
      )
    where
      held : (p at : ℕ) → slice_get new.last p ≡ Some at → (node : SearchNode) × (slice_get new.nodes at ≡ Some node) × (node.state ≡ p)
      held p at e =
          elim (set_cases r.last place (length r.nodes) p at (sym (ap (λ xs. slice_get xs p) last) ∙ e)) [
            | inl is ↦ (node_of place cost parent action, new_node new place cost parent action nodes at is.1, sym is.0)
            | inr old ↦ let h = indexed.held p at old in (h.0, old_node new place cost parent action nodes at h.0 h.1, h.2)
          ]

  -- a new state has the new node
  pub appended : (new : Reached) (cost parent action : ℕ) (state : BitSet) → new.states ≡ r.states ++ state ∷ [] → new.last ≡ r.last ++ length r.nodes ∷ []
      → new.nodes ≡ r.nodes ++ node_of (length r.states) cost parent action ∷ [] → Puts r.open_nodes (length r.nodes) new.open_nodes
      → IsIndexed new × Adds r state cost parent action new
  appended new cost parent action state states last nodes open_nodes =
      let longer : length new.states ≡ length r.states + 1 = ap length states ∙ length_pushed r.states state in (
        record {
          sized = omega (arith, ap length last ∙ length_pushed r.last (length r.nodes), indexed.sized, longer);
          held = held;
          stated = stated_more new (length r.states) cost parent action nodes (omega (arith, longer)) (omega (arith, longer));
        },
        record {
          place = length r.states;
          here = ap (λ xs. slice_get xs (length r.states)) states ∙ last_push r.states state;
          states = λ i x e. ap (λ xs. slice_get xs i) states ∙ stays_push r.states state i x e;
          nodes = nodes;
          open_nodes = open_nodes;
        },
      )
    where
      held : (p at : ℕ) → slice_get new.last p ≡ Some at → (node : SearchNode) × (slice_get new.nodes at ≡ Some node) × (node.state ≡ p)
      held p at e =
          elim (push_cases r.last (length r.nodes) p at (sym (ap (λ xs. slice_get xs p) last) ∙ e)) [
            | inl old ↦ let h = indexed.held p at old in (h.0, old_node new (length r.states) cost parent action nodes at h.0 h.1, h.2)
            | inr is ↦ (node_of (length r.states) cost parent action, new_node new (length r.states) cost parent action nodes at is.1, sym (is.0 ∙ indexed.sized))
          ]

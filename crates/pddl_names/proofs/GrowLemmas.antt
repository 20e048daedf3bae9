-- How trees of numbers grow by one number at a time.
use Rattle.std.proofs.Common.{◌≡◌, ℕ, ◌+◌, ◌<◌, ◌≤◌, ◌≢◌, zero, suc, Bool, true, false, List, [], ◌∷◌, length, get_or-set_other, get_or-set_same, length-set, refl, sym, ap, subst, ◌∙◌, arith, ⊎_elim, inl, inr}
use Rattle.std.specs.Prelude.{◌⊎◌, slice_set, slice_index}
use Rattle.std.specs.List.{slice_index_or}
use Rattle.std.proofs.lemmas.Bool.{true≢false, cases_eq}
use Rattle.pddl_names.specs.declared.forests.Node.{Node}
use Rattle.pddl_names.specs.Forests.{up, climb, node_at, IsMarked, unmarked, IsJump, IsPlaced, IsGrown, Never}

-- ---- marks

pub marked_within : (marks : List Bool) (v : ℕ) → IsMarked marks v → v < length marks
marked_within [] zero e = absurd (true≢false (sym e))
marked_within [] (suc v) e = absurd (true≢false (sym e))
marked_within (m ∷ marks) zero e = omega arith
marked_within (m ∷ marks) (suc v) e = let lt = marked_within marks v e in omega (arith, lt)

pub unmarked_le : (marks : List Bool) → unmarked marks ≤ length marks
unmarked_le [] = omega arith
unmarked_le (true ∷ marks) = let le = unmarked_le marks in omega (arith, le)
unmarked_le (false ∷ marks) = let le = unmarked_le marks in omega (arith, le)

pub unmarked_set : (marks : List Bool) (v : ℕ) → v < length marks → slice_index_or marks v false ≡ false → suc (unmarked (slice_set marks v true)) ≡ unmarked marks
unmarked_set [] v lt e = absurd (omega arith)
unmarked_set (true ∷ marks) zero lt e = absurd (true≢false e)
unmarked_set (false ∷ marks) zero lt e = refl
unmarked_set (true ∷ marks) (suc v) lt e = unmarked_set marks v (omega arith) e
unmarked_set (false ∷ marks) (suc v) lt e = ap suc (unmarked_set marks v (omega arith) e)

pub climb_add : (ups : List ℕ) (m n v : ℕ) → climb ups (m + n) v ≡ climb ups m (climb ups n v)
climb_add ups zero n v = let same : 0 + n ≡ n = omega arith in ap (λ k. climb ups k v) same
climb_add ups (suc m) n v = let next : suc m + n ≡ suc (m + n) = omega arith in ap (λ k. climb ups k v) next ∙ ap (slice_index ups) (climb_add ups m n v)

jump_made : (ups : List ℕ) (nodes : List Node) (Done : ℕ → Type 0) (v : ℕ) (n : Node) → node_at nodes v ≡ n → (steps : ℕ) → Done n.jump → climb ups steps v ≡ n.jump
    → (node_at nodes n.jump).depth + steps ≡ n.depth → (0 < n.depth → 0 < steps) → IsJump ups nodes Done v
jump_made ups nodes Done v n e steps d c deep moves = record {
  steps = steps;
  done = subst (λ (x : Node). Done x.jump) (sym e) d;
  climbs = c ∙ ap (λ (x : Node). x.jump) (sym e);
  deep = (λ i. (node_at nodes (e i).jump).depth + steps) ∙ deep ∙ ap (λ (x : Node). x.depth) (sym e);
  moves = λ lt. moves (subst (λ (x : Node). 0 < x.depth) e lt);
}

-- ---- one number more

module _ (ups : List ℕ) (nodes : List Node) (done : List Bool) (v : ℕ) (n : Node) (fresh : slice_index_or done v false ≡ false) where
  abbrev nodes' : List Node
  nodes' = slice_set nodes v n

  abbrev done' : List Bool
  done' = slice_set done v true

  node_other : (u : ℕ) → u ≢ v → node_at nodes' u ≡ node_at nodes u
  node_other u apart = get_or-set_other nodes v u n (record { root = 0; depth = 0; jump = 0 }) apart

  mark_other : (u : ℕ) → u ≢ v → slice_index_or done' u false ≡ slice_index_or done u false
  mark_other u apart = get_or-set_other done v u true false apart

  marked_apart : (u : ℕ) → IsMarked done u → u ≢ v
  marked_apart u marked same = true≢false (sym marked ∙ ap (λ k. slice_index_or done k false) same ∙ fresh)

  pub mark_kept : (u : ℕ) → IsMarked done u → IsMarked done' u
  mark_kept u marked = mark_other u (marked_apart u marked) ∙ marked

  node_kept : (u : ℕ) → IsMarked done u → node_at nodes' u ≡ node_at nodes u
  node_kept u marked = node_other u (marked_apart u marked)

  module _ (in_nodes : v < length nodes) (in_done : v < length done) where
    pub node_here : node_at nodes' v ≡ n
    node_here = get_or-set_same nodes v n (record { root = 0; depth = 0; jump = 0 }) in_nodes

    pub mark_here : IsMarked done' v
    mark_here = get_or-set_same done v true false in_done

    -- what is placed stays so, where the new number has the root of those below it
    kept : (w : ℕ) → IsMarked done w → (up ups w ≡ v → n.root ≡ (node_at nodes w).root) → IsPlaced ups nodes (IsMarked done) w → IsPlaced ups nodes' (IsMarked done') w
    kept w marked rooted placed =
        let here = node_kept w marked in
        record {
          stands = ⊎_elim
              (λ root. inl (ap (λ (x : Node). x.root) here ∙ root.0, ap (λ (x : Node). x.depth) here ∙ root.1))
              (λ child. let above = node_kept (up ups w) child.0 in
              inr (
                mark_kept (up ups w) child.0,
                ap (λ (x : Node). x.root) here ∙ child.1 ∙ ap (λ (x : Node). x.root) (sym above),
                ap (λ (x : Node). x.depth) here ∙ child.2 ∙ ap (λ (x : Node). suc x.depth) (sym above),
              ))
              placed.stands;
          jumps = jump_made ups nodes' (IsMarked done') w (node_at nodes w) here placed.jumps.steps (mark_kept (node_at nodes w).jump placed.jumps.done) placed.jumps.climbs
              (ap (λ (x : Node). x.depth + placed.jumps.steps) (node_kept (node_at nodes w).jump placed.jumps.done) ∙ placed.jumps.deep) placed.jumps.moves;
          same = λ marked_up. ⊎_elim
              (λ is. ap (λ k. (node_at nodes' k).root) is ∙ ap (λ (x : Node). x.root) node_here ∙ rooted is ∙ ap (λ (x : Node). x.root) (sym here))
              (λ apart. ap (λ (x : Node). x.root) (node_other (up ups w) apart) ∙ placed.same (sym (mark_other (up ups w) apart) ∙ marked_up) ∙ ap (λ (x : Node). x.root) (sym here))
              (cases_eq (up ups w) v);
        }

    -- with the new number placed, all are
    grown_with : (O O' : ℕ → Type 0) → IsGrown ups nodes done O → ((w : ℕ) → O w → O' w) → ((w : ℕ) → IsMarked done w → up ups w ≡ v → n.root ≡ (node_at nodes w).root)
        → IsPlaced ups nodes' (IsMarked done') v → IsMarked done' (up ups v) ⊎ O' v → n.depth + unmarked done ≤ length done → IsGrown ups nodes' done' O'
    grown_with O O' old opens rooted placed closed low = record {
      nodes_count = length-set nodes v n ∙ old.nodes_count;
      done_count = length-set done v true ∙ old.done_count;
      placed = λ w marked. ⊎_elim
          (λ is. subst (IsPlaced ups nodes' (IsMarked done')) (sym is) placed)
          (λ apart. let was = sym (mark_other w apart) ∙ marked in kept w was (rooted w was) (old.placed w was))
          (cases_eq w v);
      closed = λ w marked. ⊎_elim
          (λ is. subst (λ k. IsMarked done' (up ups k) ⊎ O' k) (sym is) closed)
          (λ apart. let was = sym (mark_other w apart) ∙ marked in
          ⊎_elim (λ up_marked. inl (mark_kept (up ups w) up_marked)) (λ o. inr (opens w o)) (old.closed w was))
          (cases_eq w v);
      low = λ w marked.
          let fewer = unmarked_set done v in_done fresh in
          let size = length-set done v true in
          ⊎_elim
          (λ is. let deep : (node_at nodes' w).depth ≡ n.depth = ap (λ k. (node_at nodes' k).depth) is ∙ ap (λ (x : Node). x.depth) node_here in omega (arith, deep, low, fewer, size))
          (λ apart. let was = sym (mark_other w apart) ∙ marked in
          let deep : (node_at nodes' w).depth ≡ (node_at nodes w).depth = ap (λ (x : Node). x.depth) (node_other w apart) in
          omega (arith, deep, old.low w was, fewer, size))
          (cases_eq w v);
    }

    -- ---- a root

    pub put_root : (up ups v ≡ v) ⊎ (slice_index_or done (up ups v) false ≡ false) → n.root ≡ v → n.depth ≡ 0 → n.jump ≡ v → IsGrown ups nodes done Never → IsGrown ups nodes' done' (λ w. w ≡ v)
    put_root alone is_root is_depth is_jump old =
        let few = unmarked_le done in
        grown_with Never (λ w. w ≡ v) old (λ w never. absurd never)
        (λ w marked is. absurd (⊎_elim (λ up_marked. marked_apart (up ups w) up_marked is) (λ never. never) (old.closed w marked)))
        (record {
          stands = inl (ap (λ (x : Node). x.root) node_here ∙ is_root, ap (λ (x : Node). x.depth) node_here ∙ is_depth);
          jumps = jump_made ups nodes' (IsMarked done') v n node_here 0 (subst (IsMarked done') (sym is_jump) mark_here) (sym is_jump)
              (let plain : (node_at nodes' v).depth + 0 ≡ (node_at nodes' v).depth = omega arith in
              ap (λ k. (node_at nodes' k).depth + 0) is_jump ∙ plain ∙ ap (λ (x : Node). x.depth) node_here)
              (λ lt. absurd (omega (arith, lt, is_depth)));
          same = λ marked_up. ⊎_elim
              (λ is. ap (λ k. (node_at nodes' k).root) is)
              (λ apart. let was = sym (mark_other (up ups v) apart) ∙ marked_up in absurd (⊎_elim (λ is. apart is) (λ none. true≢false (sym was ∙ none)) alone))
              (cases_eq (up ups v) v);
        })
        (inr refl) (omega (arith, is_depth, few))

    -- ---- a child

    module _ (O : ℕ → Type 0) (old : IsGrown ups nodes done O) (up_marked : IsMarked done (up ups v)) where
      abbrev p : ℕ
      p = up ups v

      abbrev over : Node
      over = node_at nodes p

      child_jump : n.depth ≡ over.depth + 1 → (n.jump ≡ p) ⊎ (n.jump ≡ (node_at nodes over.jump).jump) → IsJump ups nodes' (IsMarked done') v
      child_jump deep (inl near) =
          jump_made ups nodes' (IsMarked done') v n node_here 1 (subst (IsMarked done') (sym near) (mark_kept p up_marked)) (sym near)
          (ap (λ k. (node_at nodes' k).depth + 1) near ∙ ap (λ (x : Node). x.depth + 1) (node_kept p up_marked) ∙ sym deep) (λ lt. omega arith)
      child_jump deep (inr far) =
          let first = (old.placed p up_marked).jumps in
          let second = (old.placed over.jump first.done).jumps in
          let there = (node_at nodes over.jump).jump in
          let way : climb ups (second.steps + (first.steps + 1)) v ≡ there =
          (climb_add ups second.steps (first.steps + 1) v ∙ ap (climb ups second.steps) (climb_add ups first.steps 1 v ∙ first.climbs) ∙ second.climbs) in
          let size : (node_at nodes there).depth + (second.steps + (first.steps + 1)) ≡ over.depth + 1 = omega (arith, first.deep, second.deep) in
          jump_made ups nodes' (IsMarked done') v n node_here (second.steps + (first.steps + 1)) (subst (IsMarked done') (sym far) (mark_kept there second.done)) (way ∙ sym far)
          (ap (λ k. (node_at nodes' k).depth + (second.steps + (first.steps + 1))) far
          ∙ ap (λ (x : Node). x.depth + (second.steps + (first.steps + 1))) (node_kept there second.done) ∙ size ∙ sym deep)
          (λ lt. omega arith)

      pub put_child : n.root ≡ over.root → n.depth ≡ over.depth + 1 → (n.jump ≡ p) ⊎ (n.jump ≡ (node_at nodes over.jump).jump)
          → ((w : ℕ) → IsMarked done w → up ups w ≡ v → n.root ≡ (node_at nodes w).root) → IsGrown ups nodes' done' O
      put_child is_root is_depth is_jump rooted =
          let above = node_kept p up_marked in
          let deeper : over.depth + 1 ≡ suc over.depth = omega arith in
          let low = old.low p up_marked in
          grown_with O O old (λ w o. o) rooted
          (record {
            stands = inr (
              mark_kept p up_marked,
              ap (λ (x : Node). x.root) node_here ∙ is_root ∙ ap (λ (x : Node). x.root) (sym above),
              ap (λ (x : Node). x.depth) node_here ∙ is_depth ∙ deeper ∙ ap (λ (x : Node). suc x.depth) (sym above),
            );
            jumps = child_jump is_depth is_jump;
            same = λ marked_up. ap (λ (x : Node). x.root) above ∙ sym is_root ∙ ap (λ (x : Node). x.root) (sym node_here);
          })
          (inl (mark_kept p up_marked)) (omega (arith, is_depth, low))

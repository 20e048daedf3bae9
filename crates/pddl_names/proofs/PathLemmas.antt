-- A path up is walked, and then its numbers are placed from the last to the first.
use Rattle.std.proofs.Common.{◌≡◌, ℕ, ◌+◌, ◌-◌, ◌<◌, ◌≤◌, ◌≢◌, Bool, true, false, List, [], ◌∷◌, ◌++◌, length, get_or, get_or-set_other, get_or-set_same, length-set, length-append, refl, sym, ap, subst, ◌∙◌, arith, ⊎_elim, inl, inr}
use Rattle.std.specs.Prelude.{◌⊎◌, slice_set, slice_index}
use Rattle.std.specs.List.{slice_index_or}
use Rattle.std.proofs.lemmas.Bool.{true≢false, cases_lt, cases_eq, cases_Bool}
use Rattle.std.proofs.lemmas.List.{get_or_append_left, get_or-append_right}
use Rattle.pddl_names.specs.declared.forests.Node.{Node}
use Rattle.pddl_names.specs.Forests.{up, node_at, IsMarked, IsGrown, AreUps, IsForest, IsOn, IsPath, IsSettled}
use Rattle.pddl_names.proofs.GrowLemmas.{marked_within, mark_kept, mark_here, node_here, put_root, put_child}

-- ---- the path

pub path_start : (ups : List ℕ) (seen : List Bool) (start : ℕ) → length seen ≡ length ups → start < length ups → IsPath ups seen seen start [] start
path_start ups seen start size lt = record {
  count = size;
  inside = λ i l. absurd (omega (arith, l));
  end_inside = lt;
  chain = λ i l. absurd (omega (arith, l));
  last = λ i e. absurd (omega (arith, e));
  kept = λ v m. m;
  new = λ v m. inl m;
  closed = λ v m. inl m;
  started = inr refl;
  fresh = λ i l. absurd (omega (arith, l));
  marked = λ i l. absurd (omega (arith, l));
}

module _ (ups : List ℕ) (before now : List Bool) (start at : ℕ) (path : List ℕ) (fresh : slice_index_or now at false ≡ false) (known : IsPath ups before now start path at) (are : AreUps ups) where
  abbrev now' : List Bool
  now' = slice_set now at true

  abbrev path' : List ℕ
  path' = path ++ at ∷ []

  in_now : at < length now
  in_now = omega (arith, known.end_inside, known.count)

  here : IsMarked now' at
  here = get_or-set_same now at true false in_now

  still : (u : ℕ) → IsMarked now u → IsMarked now' u
  still u marked =
      ⊎_elim (λ is. ap (λ k. slice_index_or now' k false) is ∙ here) (λ apart. get_or-set_other now at u true false apart ∙ marked) (cases_eq u at)

  old_at : (i : ℕ) → i < length path → slice_index path' i ≡ slice_index path i
  old_at i lt = get_or_append_left path (at ∷ []) 0 i lt

  new_at : slice_index path' (length path) ≡ at
  new_at =
      let le : length path ≤ length path = omega arith in
      let none : length path - length path ≡ 0 = omega arith in
      get_or-append_right path (at ∷ []) (length path) (length path) 0 refl le ∙ ap (λ k. get_or (at ∷ []) k 0) none

  size : length path' ≡ length path + 1
  size = length-append path (at ∷ [])

  -- what holds of each place of the path before and of the last one
  each : (P : ℕ → Type 0) → ((i : ℕ) → i < length path → P (slice_index path i)) → P at → (i : ℕ) → i < length path' → P (slice_index path' i)
  each P old new i lt =
      ⊎_elim (λ l. subst P (sym (old_at i l)) (old i l))
      (λ ge. let is : i ≡ length path = omega (arith, lt, size, ge) in subst P (sym (ap (slice_index path') is ∙ new_at)) new)
      (cases_lt i (length path))

  pub path_more : IsPath ups before now' start path' (up ups at)
  path_more = record {
    count = length-set now at true ∙ known.count;
    inside = each (λ v. v < length ups) known.inside known.end_inside;
    end_inside = are at known.end_inside;
    chain = λ i lt. ⊎_elim
        (λ l. let early : i < length path = omega (arith, l) in ap (up ups) (old_at i early) ∙ known.chain i l ∙ sym (old_at (i + 1) l))
        (λ ge. let is : i + 1 ≡ length path = omega (arith, lt, size, ge) in
        let early : i < length path = omega (arith, is) in
        ap (up ups) (old_at i early) ∙ known.last i is ∙ sym (ap (slice_index path') is ∙ new_at))
        (cases_lt (i + 1) (length path));
    last = λ i e. let is : i ≡ length path = omega (arith, e, size) in ap (up ups) (ap (slice_index path') is ∙ new_at);
    kept = λ v m. still v (known.kept v m);
    new = λ v m. ⊎_elim
        (λ is. inr (length path, omega (arith, size), new_at ∙ sym is))
        (λ apart. ⊎_elim (λ b. inl b) (λ on. inr (on.0, omega (arith, on.1, size), old_at on.0 on.1 ∙ on.2)) (known.new v (sym (get_or-set_other now at v true false apart) ∙ m)))
        (cases_eq v at);
    closed = λ v m. ⊎_elim
        (λ is. inr (inr (ap (up ups) is)))
        (λ apart. ⊎_elim (λ b. inl b)
        (λ rest. ⊎_elim (λ marked. inr (inl (still (up ups v) marked))) (λ is. inr (inl (ap (λ k. slice_index_or now' k false) is ∙ here))) rest)
        (known.closed v (sym (get_or-set_other now at v true false apart) ∙ m)))
        (cases_eq v at);
    started = inl (⊎_elim (λ marked. still start marked) (λ is. ap (λ k. slice_index_or now' k false) is ∙ here) known.started);
    fresh = each (λ v. slice_index_or before v false ≡ false) known.fresh
        (⊎_elim (λ yes. absurd (true≢false (sym (known.kept at yes) ∙ fresh))) (λ none. none) (cases_Bool (slice_index_or before at false)));
    marked = each (IsMarked now') (λ i lt. still (slice_index path i) (known.marked i lt)) here;
  }

-- ---- the numbers of the path

-- what is known when the numbers of the path from a place on are placed
pub record Settling (ups : List ℕ) (nodes : List Node) (done before after : List Bool) (path : List ℕ) (end place : ℕ) : Type 0 where
  pub grown : IsGrown ups nodes done (λ w. w ≡ end)
  pub end_done : IsMarked done end
  pub next : (i : ℕ) → i + 1 ≡ place → IsMarked done (up ups (slice_index path i)) × ((node_at nodes (up ups (slice_index path i))).root ≡ (node_at nodes end).root)
  pub all : (v : ℕ) → IsMarked after v → IsMarked done v ⊎ IsOn path place v
  pub kept : (v : ℕ) → IsMarked before v → IsMarked done v
  pub back : (v : ℕ) → IsMarked done v → IsMarked after v

module _ (ups : List ℕ) (before seen after : List Bool) (start end : ℕ) (path : List ℕ) (known : IsPath ups seen after start path end) (end_marked : IsMarked after end) where
  module _ (nodes : List Node) (settled : IsSettled ups nodes before seen) where
    first_all : (done : List Bool) → ((v : ℕ) → IsMarked before v → IsMarked done v) → (v : ℕ) → IsMarked after v → IsMarked done v ⊎ IsOn path (length path) v
    first_all done kept v marked = ⊎_elim (λ was. inl (kept v (settled.all v was))) (λ on. inr on) (known.new v marked)

    first_next : (ns : List Node) (done : List Bool) → IsMarked done end → (i : ℕ) → i + 1 ≡ length path
        → IsMarked done (up ups (slice_index path i)) × ((node_at ns (up ups (slice_index path i))).root ≡ (node_at ns end).root)
    first_next ns done end_done i is = let there = known.last i is in (ap (λ k. slice_index_or done k false) there ∙ end_done, ap (λ k. (node_at ns k).root) there)

    pub settling_done : IsMarked before end → Settling ups nodes before before after path end (length path)
    settling_done end_done = record {
      grown = record {
        nodes_count = settled.grown.nodes_count;
        done_count = settled.grown.done_count;
        placed = settled.grown.placed;
        closed = λ v m. ⊎_elim (λ u. inl u) (λ never. absurd never) (settled.grown.closed v m);
        low = settled.grown.low;
      };
      end_done = end_done;
      next = first_next nodes before end_done;
      all = first_all before (λ v m. m);
      kept = λ v m. m;
      back = λ v m. known.kept v (settled.back v m);
    }

    -- the number above the end is on the path too, or it is the end
    alone : slice_index_or before end false ≡ false → (up ups end ≡ end) ⊎ (slice_index_or before (up ups end) false ≡ false)
    alone none = ⊎_elim (λ was. absurd (true≢false (sym (settled.all end was) ∙ none))) (λ on. by on (cases_lt (on.0 + 1) (length path))) (known.new end end_marked)
      where
        by : (on : IsOn path (length path) end) → (on.0 + 1 < length path) ⊎ (length path ≤ on.0 + 1) → (up ups end ≡ end) ⊎ (slice_index_or before (up ups end) false ≡ false)
        by on (inl lt) =
            let above : up ups end ≡ slice_index path (on.0 + 1) = ap (up ups) (sym on.2) ∙ known.chain on.0 lt in
            inr (ap (λ k. slice_index_or before k false) above
            ∙ ⊎_elim (λ yes. absurd (true≢false (sym (settled.back (slice_index path (on.0 + 1)) yes) ∙ known.fresh (on.0 + 1) lt))) (λ miss. miss) (cases_Bool (slice_index_or before (slice_index path (on.0 + 1)) false)))
        by on (inr ge) =
            let is : on.0 + 1 ≡ length path = omega (arith, on.1, ge) in
            inl (ap (up ups) (sym on.2) ∙ known.last on.0 is)

    pub settling_root : (n : Node) → slice_index_or before end false ≡ false → n.root ≡ end → n.depth ≡ 0 → n.jump ≡ end
        → Settling ups (slice_set nodes end n) (slice_set before end true) before after path end (length path)
    settling_root n none is_root is_depth is_jump =
        let in_nodes : end < length nodes = omega (arith, known.end_inside, settled.grown.nodes_count) in
        let in_done : end < length before = omega (arith, known.end_inside, settled.grown.done_count) in
        let here = mark_here ups nodes before end n none in_nodes in_done in
        record {
          grown = put_root ups nodes before end n none in_nodes in_done (alone none) is_root is_depth is_jump settled.grown;
          end_done = here;
          next = first_next (slice_set nodes end n) (slice_set before end true) here;
          all = first_all (slice_set before end true) (mark_kept ups nodes before end n none);
          kept = mark_kept ups nodes before end n none;
          back = λ v m. ⊎_elim (λ is. subst (IsMarked after) (sym is) end_marked)
              (λ apart. known.kept v (settled.back v (sym (get_or-set_other before end v true false apart) ∙ m))) (cases_eq v end);
        }

  module _ (nodes : List Node) (done : List Bool) (place number : ℕ) (positive : 0 < place) (within : place ≤ length path) (is_number : slice_index path (place - 1) ≡ number) (old : Settling ups nodes done before after path end place) where
    pub above : IsMarked done (up ups number) × ((node_at nodes (up ups number)).root ≡ (node_at nodes end).root)
    above =
        let there = old.next (place - 1) (omega (arith, positive)) in
        (ap (λ k. slice_index_or done (up ups k) false) (sym is_number) ∙ there.0, ap (λ k. (node_at nodes (up ups k)).root) (sym is_number) ∙ there.1)

    -- the number before is just below this one
    below_it : (i : ℕ) → i + 1 ≡ place - 1 → up ups (slice_index path i) ≡ number
    below_it i is =
        let lt : i + 1 < length path = omega (arith, is, positive, within) in
        known.chain i lt ∙ ap (slice_index path) is ∙ is_number

    on_less : (v : ℕ) → IsOn path place v → (v ≡ number) ⊎ IsOn path (place - 1) v
    on_less v on =
        ⊎_elim (λ lt. inr (on.0, lt, on.2)) (λ ge. let is : on.0 ≡ place - 1 = omega (arith, on.1, ge) in inl (sym on.2 ∙ ap (slice_index path) is ∙ is_number)) (cases_lt on.0 (place - 1))

    pub settling_skip : IsMarked done number → Settling ups nodes done before after path end (place - 1)
    settling_skip marked = record {
      grown = old.grown;
      end_done = old.end_done;
      next = λ i is. let there = below_it i is in (
        ap (λ k. slice_index_or done k false) there ∙ marked,
        ap (λ k. (node_at nodes k).root) there ∙ sym ((old.grown.placed number marked).same above.0) ∙ above.1,
      );
      all = λ v m. ⊎_elim (λ d. inl d) (λ on. ⊎_elim (λ is. inl (ap (λ k. slice_index_or done k false) is ∙ marked)) (λ less. inr less) (on_less v on)) (old.all v m);
      kept = old.kept;
      back = old.back;
    }

    pub settling_put : (n : Node) → slice_index_or done number false ≡ false → n.root ≡ (node_at nodes (up ups number)).root → n.depth ≡ (node_at nodes (up ups number)).depth + 1
        → (n.jump ≡ up ups number) ⊎ (n.jump ≡ (node_at nodes (node_at nodes (up ups number)).jump).jump)
        → Settling ups (slice_set nodes number n) (slice_set done number true) before after path end (place - 1)
    settling_put n none is_root is_depth is_jump =
        let lt : place - 1 < length path = omega (arith, positive, within) in
        let inside : number < length ups = subst (λ k. k < length ups) is_number (known.inside (place - 1) lt) in
        let in_nodes : number < length nodes = omega (arith, inside, old.grown.nodes_count) in
        let in_done : number < length done = omega (arith, inside, old.grown.done_count) in
        let here = mark_here ups nodes done number n none in_nodes in_done in
        let stays = mark_kept ups nodes done number n none in
        let apart_end : end ≢ number = (λ is. true≢false (sym old.end_done ∙ ap (λ k. slice_index_or done k false) is ∙ none)) in
        let none_node : Node = record { root = 0; depth = 0; jump = 0 } in
        let end_node : node_at (slice_set nodes number n) end ≡ node_at nodes end = get_or-set_other nodes number end n none_node apart_end in
        record {
          grown = put_child ups nodes done number n none in_nodes in_done (λ w. w ≡ end) old.grown above.0 is_root is_depth is_jump
              (λ w marked is. ⊎_elim
              (λ up_marked. absurd (true≢false (sym up_marked ∙ ap (λ k. slice_index_or done k false) is ∙ none)))
              (λ at_end. is_root ∙ above.1 ∙ ap (λ k. (node_at nodes k).root) (sym at_end))
              (old.grown.closed w marked));
          end_done = stays end old.end_done;
          next = λ i is. let there = below_it i is in (
            ap (λ k. slice_index_or (slice_set done number true) k false) there ∙ here,
            ap (λ k. (node_at (slice_set nodes number n) k).root) there ∙ ap (λ (x : Node). x.root) (node_here ups nodes done number n none in_nodes in_done)
                ∙ is_root ∙ above.1 ∙ ap (λ (x : Node). x.root) (sym end_node),
          );
          all = λ v m. ⊎_elim (λ d. inl (stays v d))
              (λ on. ⊎_elim (λ is. inl (ap (λ k. slice_index_or (slice_set done number true) k false) is ∙ here)) (λ less. inr less) (on_less v on)) (old.all v m);
          kept = λ v m. stays v (old.kept v m);
          back = λ v m. ⊎_elim (λ is. subst (IsMarked after) (is_number ∙ sym is) (known.marked (place - 1) lt))
              (λ apart. old.back v (sym (get_or-set_other done number v true false apart) ∙ m)) (cases_eq v number);
        }

  -- the whole path is placed
  module _ (nodes0 : List Node) (settled : IsSettled ups nodes0 before seen) (nodes : List Node) (done : List Bool) (at_end : Settling ups nodes done before after path end 0) where
    all_done : (v : ℕ) → IsMarked after v → IsMarked done v
    all_done v m = ⊎_elim (λ d. d) (λ on. absurd (omega (arith, on.1))) (at_end.all v m)

    end_closed : IsMarked done (up ups end)
    end_closed =
        ⊎_elim
        (λ was. ⊎_elim (λ u. at_end.kept (up ups end) u) (λ never. absurd never) (settled.grown.closed end (settled.all end was)))
        (λ rest. ⊎_elim (λ marked. all_done (up ups end) marked) (λ is. ap (λ k. slice_index_or done k false) is ∙ at_end.end_done) rest)
        (known.closed end end_marked)

    pub settled_all : IsSettled ups nodes done after
    settled_all = record {
      grown = record {
        nodes_count = at_end.grown.nodes_count;
        done_count = at_end.grown.done_count;
        placed = at_end.grown.placed;
        closed = λ v m. ⊎_elim (λ u. inl u) (λ is. inl (ap (λ k. slice_index_or done (up ups k) false) is ∙ end_closed)) (at_end.grown.closed v m);
        low = at_end.grown.low;
      };
      seen_count = known.count;
      all = all_done;
      back = at_end.back;
    }

    pub started_done : IsMarked done start
    started_done = ⊎_elim (λ marked. all_done start marked) (λ is. ap (λ k. slice_index_or done k false) is ∙ at_end.end_done) known.started

-- ---- the forest

pub forest_all : (ups : List ℕ) (nodes : List Node) (done seen : List Bool) → AreUps ups → IsSettled ups nodes done seen → ((v : ℕ) → v < length ups → IsMarked done v) → IsForest ups nodes
forest_all ups nodes done seen are settled all =
    let to : (v : ℕ) → IsMarked done v → v < length ups = (λ v m. let lt = marked_within done v m in omega (arith, lt, settled.grown.done_count)) in
    record {
      ups_within = are;
      count = settled.grown.nodes_count;
      placed = λ v lt.
          let placed = settled.grown.placed v (all v lt) in
          record {
            stands = ⊎_elim (λ root. inl root) (λ child. inr (to (up ups v) child.0, child.1, child.2)) placed.stands;
            jumps = record {
              steps = placed.jumps.steps;
              done = to (node_at nodes v).jump placed.jumps.done;
              climbs = placed.jumps.climbs;
              deep = placed.jumps.deep;
              moves = placed.jumps.moves;
            };
            same = λ inside. placed.same (all (up ups v) inside);
          };
    }

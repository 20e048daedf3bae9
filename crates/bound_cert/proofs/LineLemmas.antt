-- Lines of a bound proof: a line that keeps every rule breaks none, all lines of a proof keep them, and the place of the first fault.
use Rattle.std.proofs.Common.{◌≡◌, ℕ, suc, ◌+◌, ◌≤◌, ◌<◌, true, false, List, [], ◌∷◌, ◌++◌, length, take, drop, Some, All, refl, sym, ap, ◌∙◌, arith, subst, ◌⊎◌, inl, inr, append_assoc, slice_get}
use Rattle.std.proofs.lemmas.Bool.{true≢false}
use Rattle.std.proofs.lemmas.List.{append-nil, length-append, length-map, length-take-le, map-append}
use Rattle.std.proofs.lemmas.Option.{slice_get_within}
use Rattle.std.proofs.lemmas.List.Elements.{All-nil, All-cons, All-head, All-tail, All-append, All-push, All-weaker, All-map}
use Rattle.std.specs.FinSet as set
use Rattle.task_kit.specs.Tasks.{Numbers, TaskMeaning, price}
use Rattle.task_kit.specs.Bounds.{NumberedState}
use Rattle.task_kit.specs.Cuts.{most, CutMeaning, counts, weight_of, weights, IsCutOf}
use Rattle.task_kit.specs.Kept.{cut_meaning, cuts_meaning}
use Rattle.task_kit.specs.declared.cut.Cut.{Cut}
use Rattle.bound_cert.specs.declared.proof.BoundState.{BoundState}
use Rattle.bound_cert.specs.declared.proof.How.{How}
use Rattle.bound_cert.specs.declared.proof.How.TheVariants as hows
use Rattle.bound_cert.specs.declared.proof.BoundRule.{BoundRule}
use Rattle.bound_cert.specs.declared.proof.BoundRule.TheVariants as rules
use Rattle.bound_cert.specs.declared.proof.BoundFault.{BoundFault}
use Rattle.bound_cert.specs.Formed.{IsInRange, cuts_of}
use Rattle.bound_cert.specs.Lines.{Line, Own, OfExpanded, OfPruned, OfCut, cut_lines, lines_by, state_lines, lines, proof_lines, rank, Breaks, BreaksFirst, Keeps, IsFirstFault}
use Rattle.bound_cert.specs.Proven.{numbered, IsThere, IsLeft, IsBoundProof}
use Rattle.mre_base.proofs.Loops.{take_item}
use Rattle.bound_cert.proofs.ListLemmas.{split_at}
use Rattle.task_kit.proofs.CutWeights.{weight_of-append}
use Rattle.bound_cert.proofs.RoomLemmas.{next_cuts}

-- ---- lists of lines
pub cut_lines-append : (state : Numbers) (before xs ys : List CutMeaning) → cut_lines state before (xs ++ ys) ≡ cut_lines state before xs ++ cut_lines state (before ++ xs) ys
cut_lines-append state before [] ys = ap (λ b. cut_lines state b ys) (sym (append-nil before))
cut_lines-append state before (x ∷ xs) ys =
    ap (λ ls. OfCut state before x ∷ ls) (cut_lines-append state (before ++ x ∷ []) xs ys
    ∙ ap (λ b. cut_lines state (before ++ x ∷ []) xs ++ cut_lines state b ys) (append_assoc before (x ∷ []) xs))

pub lines-append : (atoms : ℕ) (xs ys : List BoundState) → lines atoms (xs ++ ys) ≡ lines atoms xs ++ lines atoms ys
lines-append atoms [] ys = refl
lines-append atoms (x ∷ xs) ys =
    ap (λ ls. state_lines atoms x ++ ls) (lines-append atoms xs ys) ∙ sym (append_assoc (state_lines atoms x) (lines atoms xs) (lines atoms ys))

length-cut_lines : (state : Numbers) (before cuts : List CutMeaning) → length (cut_lines state before cuts) ≡ length cuts
length-cut_lines state before [] = refl
length-cut_lines state before (cut ∷ cuts) = ap suc (length-cut_lines state (before ++ cut ∷ []) cuts)

length-lines_by : (atoms : ℕ) (state : NumberedState) (how : How) → length (lines_by atoms state how) ≡ length (cuts_of how) + 1
length-lines_by atoms state hows.Expanded = omega arith
length-lines_by atoms state (hows.Pruned cuts) = omega (arith, length-cut_lines state.state [] (cuts_meaning atoms cuts), length-map cuts (cut_meaning atoms))

pub length-state_lines : (atoms : ℕ) (s : BoundState) → length (state_lines atoms s) ≡ length (cuts_of s.how) + 1
length-state_lines atoms s = length-lines_by atoms (numbered s) s.how

-- the lines up to a state, and those of the state
pub lines_next : (atoms : ℕ) (list : List BoundState) (i : ℕ) (s : BoundState) → slice_get list i ≡ Some s → lines atoms (take (i + 1) list) ≡ lines atoms (take i list) ++ state_lines atoms s
lines_next atoms list i s at =
    ap (lines atoms) (take_item list i s at) ∙ lines-append atoms (take i list) (s ∷ []) ∙ ap (λ ls. lines atoms (take i list) ++ ls) (append-nil (state_lines atoms s))

pub lines_split : (atoms : ℕ) (list : List BoundState) (i : ℕ) (s : BoundState) → slice_get list i ≡ Some s → lines atoms list ≡ (lines atoms (take i list) ++ state_lines atoms s) ++ lines atoms (drop (i + 1) list)
lines_split atoms list i s at =
    ap (lines atoms) (split_at list i s at) ∙ lines-append atoms (take i list ++ s ∷ []) (drop (i + 1) list)
    ∙ ap (λ ls. ls ++ lines atoms (drop (i + 1) list)) (ap (lines atoms) (sym (take_item list i s at)) ∙ lines_next atoms list i s at)

-- the line counts within the number of lines
pub few_lines : (atoms : ℕ) (list : List BoundState) (i : ℕ) (s : BoundState) → slice_get list i ≡ Some s → length (lines atoms (take i list)) + (length (cuts_of s.how) + 1) ≤ length (lines atoms list)
few_lines atoms list i s at =
    let e = ap length (lines_split atoms list i s at) in
    let a = length-append (lines atoms (take i list) ++ state_lines atoms s) (lines atoms (drop (i + 1) list)) in
    let b = length-append (lines atoms (take i list)) (state_lines atoms s) in
    omega (arith, e, a, b, length-state_lines atoms s)

-- ---- a line that keeps every rule breaks none
module _ (task : TaskMeaning) (k : ℕ) (states : List BoundState) where
  not_both : (a b : ℕ) → a < b → b ≤ a → ⊥
  not_both a b lt le = omega arith

  pub keeps_unbroken : (line : Line) → Keeps task k states line → (rule : BoundRule) → ¬ Breaks task k states rule line
  keeps_unbroken Own keeps rules.Start breaks = breaks.1 (keeps breaks.0)
  keeps_unbroken (OfExpanded s) keeps rules.Below breaks = not_both s.number k keeps.0 breaks
  keeps_unbroken (OfExpanded s) keeps rules.Goal breaks = true≢false (sym breaks ∙ keeps.1.lacks_goal)
  keeps_unbroken (OfExpanded s) keeps rules.Successor breaks =
      elim (keeps.1.successors breaks.0 breaks.1.does) [
        | inl dear ↦ not_both (s.number + price task breaks.0) k breaks.1.cheap dear
        | inr known ↦ breaks.1.unknown known
      ]
  keeps_unbroken (OfPruned s cuts) keeps rules.Below breaks = not_both s.number k keeps.0 breaks
  keeps_unbroken (OfPruned s cuts) keeps rules.Sum breaks = not_both (s.number + weights cuts) k breaks keeps.1
  keeps_unbroken (OfCut state before cut) keeps rules.Cut breaks =
      elim breaks [
        | inl out ↦ true≢false (sym keeps.0 ∙ out)
        | inr has ↦ true≢false (sym has ∙ keeps.1)
      ]
  keeps_unbroken (OfCut state before cut) keeps rules.Charge breaks = not_both (price task breaks.0) _ breaks.1 (keeps.2 breaks.0)
  keeps_unbroken line keeps rule breaks = breaks

  -- ---- a line that breaks a rule and no rule before it
  cut_is_first : (state : Numbers) (before : List CutMeaning) (cut : CutMeaning) (earlier : BoundRule) → rank earlier < 5 → ¬ Breaks task k states earlier (OfCut state before cut)
  cut_is_first state before cut rules.Start lt breaks = breaks
  cut_is_first state before cut rules.Below lt breaks = breaks
  cut_is_first state before cut rules.Goal lt breaks = breaks
  cut_is_first state before cut rules.Successor lt breaks = breaks
  cut_is_first state before cut rules.Sum lt breaks = breaks
  cut_is_first state before cut rules.Cut lt breaks = absurd (omega arith)
  cut_is_first state before cut rules.Charge lt breaks = absurd (omega arith)

  pub cut_breaks : (state : Numbers) (before : List CutMeaning) (cut : CutMeaning) → (set.is_subset state cut.among ≡ false) ⊎ (set.is_subset task.goal cut.among ≡ true)
      → BreaksFirst task k states (OfCut state before cut) rules.Cut
  cut_breaks state before cut breaks = record { breaks = breaks; first = cut_is_first state before cut }

  pub charge_breaks : (state : Numbers) (before : List CutMeaning) (cut : CutMeaning) → set.is_subset state cut.among ≡ true → set.is_subset task.goal cut.among ≡ false
      → (action : ℕ) → price task action < weight_of (counts task action) (before ++ cut ∷ []) → BreaksFirst task k states (OfCut state before cut) rules.Charge
  charge_breaks state before cut has lacks action over = record { breaks = (action, over); first = first } where
    first : (earlier : BoundRule) → rank earlier < 6 → ¬ Breaks task k states earlier (OfCut state before cut)
    first rules.Start lt breaks = breaks
    first rules.Below lt breaks = breaks
    first rules.Goal lt breaks = breaks
    first rules.Successor lt breaks = breaks
    first rules.Sum lt breaks = breaks
    first rules.Cut lt breaks =
        elim breaks [
          | inl out ↦ true≢false (sym has ∙ out)
          | inr within ↦ true≢false (sym within ∙ lacks)
        ]
    first rules.Charge lt breaks = absurd (omega arith)

  -- ---- the place of the first fault
  pub fault_here : (line : Line) (later : List Line) (from : ℕ) (fault : BoundFault) → BreaksFirst task k states line fault.rule → fault.line ≡ from → IsFirstFault task k states (line ∷ later) from fault
  fault_here line later from fault broken at =
      record { before = []; line = line; later = later; here = refl; counted = omega arith; unbroken = All-nil (λ l. (rule : BoundRule) → ¬ Breaks task k states rule l); broken = broken }

  pub fault_before : (xs ys : List Line) (from : ℕ) (fault : BoundFault) → IsFirstFault task k states xs from fault → IsFirstFault task k states (xs ++ ys) from fault
  fault_before xs ys from fault f =
      record {
        before = f.before;
        line = f.line;
        later = f.later ++ ys;
        here = ap (λ ls. ls ++ ys) f.here ∙ append_assoc f.before (f.line ∷ f.later) ys;
        counted = f.counted;
        unbroken = f.unbroken;
        broken = f.broken;
      }

  pub fault_after : (xs ys : List Line) (from to : ℕ) (fault : BoundFault) → to ≡ from + length xs → All (Keeps task k states) xs → IsFirstFault task k states ys to fault → IsFirstFault task k states (xs ++ ys) from fault
  fault_after xs ys from to fault e keeps f =
      record {
        before = xs ++ f.before;
        line = f.line;
        later = f.later;
        here = ap (λ ls. xs ++ ls) f.here ∙ sym (append_assoc xs f.before (f.line ∷ f.later));
        counted = omega (arith, e, f.counted, length-append xs f.before);
        unbroken = All-append (λ l. (rule : BoundRule) → ¬ Breaks task k states rule l) xs f.before (All-weaker (Keeps task k states) (λ l. (rule : BoundRule) → ¬ Breaks task k states rule l) keeps_unbroken xs keeps) f.unbroken;
        broken = f.broken;
      }

  -- lines with a fault don't all keep the rules
  pub fault_breaks : (ls : List Line) (from : ℕ) (fault : BoundFault) → IsFirstFault task k states ls from fault → All (Keeps task k states) ls → ⊥
  fault_breaks ls from fault f keeps =
      let all : All (Keeps task k states) (f.before ++ f.line ∷ f.later) = subst (All (Keeps task k states)) f.here keeps in
      keeps_unbroken f.line (at_last f.before all) fault.rule f.broken.breaks
    where
      at_last : (before : List Line) → All (Keeps task k states) (before ++ f.line ∷ f.later) → Keeps task k states f.line
      at_last [] all = All-head (Keeps task k states) f.line f.later all
      at_last (l ∷ before) all = at_last before (All-tail (Keeps task k states) l (before ++ f.line ∷ f.later) all)

  -- ---- the lines of a state, expanded or pruned
  module _ (s : BoundState) where
    abbrev of : List Cut → List CutMeaning
    of cuts = cuts_meaning task.atoms cuts

    pub fault_at_expanded : s.how ≡ hows.Expanded → (fault : BoundFault) → BreaksFirst task k states (OfExpanded (numbered s)) fault.rule → IsFirstFault task k states (state_lines task.atoms s) fault.line fault
    fault_at_expanded is fault broken =
        subst (λ ls. IsFirstFault task k states ls fault.line fault) (sym (ap (lines_by task.atoms (numbered s)) is)) (fault_here (OfExpanded (numbered s)) [] fault.line fault broken refl)

    module _ (cuts : List Cut) (is : s.how ≡ hows.Pruned cuts) where
      pruned_lines : state_lines task.atoms s ≡ OfPruned (numbered s) (of cuts) ∷ cut_lines s.state.members [] (of cuts)
      pruned_lines = ap (lines_by task.atoms (numbered s)) is

      pub fault_at_pruned : (fault : BoundFault) → BreaksFirst task k states (OfPruned (numbered s) (of cuts)) fault.rule → IsFirstFault task k states (state_lines task.atoms s) fault.line fault
      fault_at_pruned fault broken =
          subst (λ ls. IsFirstFault task k states ls fault.line fault) (sym pruned_lines) (fault_here (OfPruned (numbered s) (of cuts)) (cut_lines s.state.members [] (of cuts)) fault.line fault broken refl)

      module _ (keeps : Keeps task k states (OfPruned (numbered s) (of cuts))) where
        pub pruned_keeps : All (Keeps task k states) (cut_lines s.state.members [] (of cuts)) → All (Keeps task k states) (state_lines task.atoms s)
        pruned_keeps rest =
            subst (All (Keeps task k states)) (sym pruned_lines) (All-cons (Keeps task k states) (OfPruned (numbered s) (of cuts)) (cut_lines s.state.members [] (of cuts)) keeps rest)

        pub fault_past_pruned : (line : ℕ) (fault : BoundFault) → IsFirstFault task k states (cut_lines s.state.members [] (of cuts)) (line + 1) fault → IsFirstFault task k states (state_lines task.atoms s) line fault
        fault_past_pruned line fault f =
            subst (λ ls. IsFirstFault task k states ls line fault) (sym pruned_lines)
            (fault_after (OfPruned (numbered s) (of cuts) ∷ []) (cut_lines s.state.members [] (of cuts)) line (line + 1) fault (omega arith)
            (All-cons (Keeps task k states) (OfPruned (numbered s) (of cuts)) [] keeps (All-nil (Keeps task k states))) f)

  -- ---- the bound's own line
  pub fault_at_start : (0 < k) → ¬ IsThere states task.start 0 → IsFirstFault task k states (proof_lines task.atoms states) 1 (record { line = 1; rule = rules.Start })
  fault_at_start above missing =
      fault_here Own (lines task.atoms states) 1 (record { line = 1; rule = rules.Start }) (record { breaks = (above, missing); first = λ earlier lt _. absurd (omega arith) }) refl

  pub own_keeps : (0 < k → IsThere states task.start 0) → All (Keeps task k states) (lines task.atoms states) → All (Keeps task k states) (proof_lines task.atoms states)
  own_keeps start rest = All-cons (Keeps task k states) Own (lines task.atoms states) start rest

  pub fault_past_own : (fault : BoundFault) → (0 < k → IsThere states task.start 0) → IsFirstFault task k states (lines task.atoms states) 2 fault → IsFirstFault task k states (proof_lines task.atoms states) 1 fault
  fault_past_own fault start f =
      fault_after (Own ∷ []) (lines task.atoms states) 1 2 fault (omega arith) (All-cons (Keeps task k states) Own [] start (All-nil (Keeps task k states))) f

  -- ---- the lines of the states up to one
  module _ (list : List BoundState) (i : ℕ) (s : BoundState) (at : slice_get list i ≡ Some s) (kept : All (Keeps task k states) (lines task.atoms (take i list))) where
    pub states_keep : All (Keeps task k states) (state_lines task.atoms s) → All (Keeps task k states) (lines task.atoms (take (i + 1) list))
    states_keep more =
        subst (All (Keeps task k states)) (sym (lines_next task.atoms list i s at)) (All-append (Keeps task k states) (lines task.atoms (take i list)) (state_lines task.atoms s) kept more)

    pub fault_in_states : (from to : ℕ) (fault : BoundFault) → to ≡ from + length (lines task.atoms (take i list)) → IsFirstFault task k states (state_lines task.atoms s) to fault → IsFirstFault task k states (lines task.atoms list) from fault
    fault_in_states from to fault e f =
        subst (λ ls. IsFirstFault task k states ls from fault) (sym (lines_split task.atoms list i s at))
        (fault_before (lines task.atoms (take i list) ++ state_lines task.atoms s) (lines task.atoms (drop (i + 1) list)) from fault
        (fault_after (lines task.atoms (take i list)) (state_lines task.atoms s) from to fault e kept f))

  -- ---- the lines of a state's cuts up to one
  module _ (state : Numbers) (cuts : List Cut) (i : ℕ) (cut : Cut) (at : slice_get cuts i ≡ Some cut) (kept : All (Keeps task k states) (cut_lines state [] (cuts_meaning task.atoms (take i cuts)))) where
    abbrev ms : List CutMeaning
    ms = cuts_meaning task.atoms (take i cuts)

    pub next_lines : cut_lines state [] (cuts_meaning task.atoms (take (i + 1) cuts)) ≡ cut_lines state [] ms ++ OfCut state ms (cut_meaning task.atoms cut) ∷ []
    next_lines = ap (cut_lines state []) (next_cuts task.atoms cuts i cut at) ∙ cut_lines-append state [] ms (cut_meaning task.atoms cut ∷ [])

    pub cuts_keep_more : Keeps task k states (OfCut state ms (cut_meaning task.atoms cut)) → All (Keeps task k states) (cut_lines state [] (cuts_meaning task.atoms (take (i + 1) cuts)))
    cuts_keep_more more = subst (All (Keeps task k states)) (sym next_lines) (All-push (Keeps task k states) (cut_lines state [] ms) (OfCut state ms (cut_meaning task.atoms cut)) kept more)

    whole : cut_lines state [] (cuts_meaning task.atoms cuts) ≡ (cut_lines state [] ms ++ OfCut state ms (cut_meaning task.atoms cut) ∷ []) ++ cut_lines state (cuts_meaning task.atoms (take i cuts ++ cut ∷ [])) (cuts_meaning task.atoms (drop (i + 1) cuts))
    whole =
        ap (λ cs. cut_lines state [] (cuts_meaning task.atoms cs)) (split_at cuts i cut at)
        ∙ ap (cut_lines state []) (map-append (cut_meaning task.atoms) (take i cuts ++ cut ∷ []) (drop (i + 1) cuts))
        ∙ cut_lines-append state [] (cuts_meaning task.atoms (take i cuts ++ cut ∷ [])) (cuts_meaning task.atoms (drop (i + 1) cuts))
        ∙ ap (λ ls. ls ++ cut_lines state (cuts_meaning task.atoms (take i cuts ++ cut ∷ [])) (cuts_meaning task.atoms (drop (i + 1) cuts)))
        (ap (λ cs. cut_lines state [] (cuts_meaning task.atoms cs)) (sym (take_item cuts i cut at)) ∙ next_lines)

    pub fault_among_cuts : (from : ℕ) (fault : BoundFault) → fault.line ≡ from + i → BreaksFirst task k states (OfCut state ms (cut_meaning task.atoms cut)) fault.rule
        → IsFirstFault task k states (cut_lines state [] (cuts_meaning task.atoms cuts)) from fault
    fault_among_cuts from fault counted broken =
        let inside : i < length cuts = slice_get_within cuts i cut at in
        let count : length (cut_lines state [] ms) ≡ i = omega (arith, length-cut_lines state [] ms, length-map (take i cuts) (cut_meaning task.atoms), length-take-le i cuts (omega arith)) in
        subst (λ ls. IsFirstFault task k states ls from fault) (sym whole)
        (fault_before (cut_lines state [] ms ++ OfCut state ms (cut_meaning task.atoms cut) ∷ []) _ from fault
        (fault_after (cut_lines state [] ms) (OfCut state ms (cut_meaning task.atoms cut) ∷ []) from (from + i) fault (omega arith) kept
        (fault_here (OfCut state ms (cut_meaning task.atoms cut)) [] (from + i) fault broken counted)))

  -- ---- a bound proof's lines keep the rules
  cuts_keep : (state : Numbers) (before cuts : List CutMeaning) → All (IsCutOf task state) cuts → ((action : ℕ) → weight_of (counts task action) (before ++ cuts) ≤ price task action)
      → All (Keeps task k states) (cut_lines state before cuts)
  cuts_keep state before [] each within = All-nil (Keeps task k states)
  cuts_keep state before (cut ∷ cuts) each within =
      let is : IsCutOf task state cut = All-head (IsCutOf task state) cut cuts each in
      All-cons (Keeps task k states) (OfCut state before cut) (cut_lines state (before ++ cut ∷ []) cuts) (is.has_state, is.lacks_goal, first)
      (cuts_keep state (before ++ cut ∷ []) cuts (All-tail (IsCutOf task state) cut cuts each) rest)
    where
      rest : (action : ℕ) → weight_of (counts task action) ((before ++ cut ∷ []) ++ cuts) ≤ price task action
      rest action = subst (λ ms. weight_of (counts task action) ms ≤ price task action) (sym (append_assoc before (cut ∷ []) cuts)) (within action)

      first : (action : ℕ) → weight_of (counts task action) (before ++ cut ∷ []) ≤ price task action
      first action = omega (arith, rest action, weight_of-append (counts task action) (before ++ cut ∷ []) cuts)

  left_keeps : (s : NumberedState) (how : How) → s.number < k → IsLeft task k (IsThere states) s.state s.number how → All (Keeps task k states) (lines_by task.atoms s how)
  left_keeps s hows.Expanded below left = All-cons (Keeps task k states) (OfExpanded s) [] (below, left) (All-nil (Keeps task k states))
  left_keeps s (hows.Pruned cuts) below left =
      All-cons (Keeps task k states) (OfPruned s (cuts_meaning task.atoms cuts)) (cut_lines s.state [] (cuts_meaning task.atoms cuts)) (below, left.enough)
      (cuts_keep s.state [] (cuts_meaning task.atoms cuts) left.lawful.each left.lawful.within)

  abbrev LeftOf : BoundState → Type 0
  LeftOf s = IsLeft task k (IsThere states) s.state.members s.number s.how

  all_keep : (list : List BoundState) → All (λ s. s.number < k) list → All LeftOf list → All (Keeps task k states) (lines task.atoms list)
  all_keep [] below each = All-nil (Keeps task k states)
  all_keep (s ∷ list) below each =
      All-append (Keeps task k states) (state_lines task.atoms s) (lines task.atoms list)
      (left_keeps (numbered s) s.how (All-head (λ t. t.number < k) s list below) (All-head LeftOf s list each))
      (all_keep list (All-tail (λ t. t.number < k) s list below) (All-tail LeftOf s list each))

  pub proof_keeps : IsBoundProof task k states → All (Keeps task k states) (proof_lines task.atoms states)
  proof_keeps proof = All-cons (Keeps task k states) Own (lines task.atoms states) proof.start (all_keep states proof.below proof.each)

  -- ---- lines that keep the rules are those of a bound proof
  front : (xs ys : List Line) → All (Keeps task k states) (xs ++ ys) → All (Keeps task k states) xs
  front [] ys all = All-nil (Keeps task k states)
  front (x ∷ xs) ys all = All-cons (Keeps task k states) x xs (All-head (Keeps task k states) x (xs ++ ys) all) (front xs ys (All-tail (Keeps task k states) x (xs ++ ys) all))

  back : (xs ys : List Line) → All (Keeps task k states) (xs ++ ys) → All (Keeps task k states) ys
  back [] ys all = all
  back (x ∷ xs) ys all = back xs ys (All-tail (Keeps task k states) x (xs ++ ys) all)

  kept_cuts : (state : Numbers) (before cuts : List CutMeaning) → All (λ cut. cut.weight ≤ most) cuts → All (Keeps task k states) (cut_lines state before cuts) → All (IsCutOf task state) cuts
  kept_cuts state before [] ranges all = All-nil (IsCutOf task state)
  kept_cuts state before (cut ∷ cuts) ranges all =
      let first : Keeps task k states (OfCut state before cut) = All-head (Keeps task k states) (OfCut state before cut) (cut_lines state (before ++ cut ∷ []) cuts) all in
      All-cons (IsCutOf task state) cut cuts (record { has_state = first.0; lacks_goal = first.1; in_range = All-head (λ c. c.weight ≤ most) cut cuts ranges })
      (kept_cuts state (before ++ cut ∷ []) cuts (All-tail (λ c. c.weight ≤ most) cut cuts ranges) (All-tail (Keeps task k states) (OfCut state before cut) (cut_lines state (before ++ cut ∷ []) cuts) all))

  kept_charges : (state : Numbers) (before cuts : List CutMeaning) → ((action : ℕ) → weight_of (counts task action) before ≤ price task action) → All (Keeps task k states) (cut_lines state before cuts)
      → (action : ℕ) → weight_of (counts task action) (before ++ cuts) ≤ price task action
  kept_charges state before [] within all action = subst (λ ms. weight_of (counts task action) ms ≤ price task action) (sym (append-nil before)) (within action)
  kept_charges state before (cut ∷ cuts) within all action =
      let first : Keeps task k states (OfCut state before cut) = All-head (Keeps task k states) (OfCut state before cut) (cut_lines state (before ++ cut ∷ []) cuts) all in
      subst (λ ms. weight_of (counts task action) ms ≤ price task action) (append_assoc before (cut ∷ []) cuts)
      (kept_charges state (before ++ cut ∷ []) cuts first.2 (All-tail (Keeps task k states) (OfCut state before cut) (cut_lines state (before ++ cut ∷ []) cuts) all) action)

  abbrev InRange : BoundState → Type 0
  InRange s = All (IsInRange task.atoms) (cuts_of s.how)

  keeps_left : (s : NumberedState) (how : How) → All (IsInRange task.atoms) (cuts_of how) → All (Keeps task k states) (lines_by task.atoms s how) → (s.number < k) × IsLeft task k (IsThere states) s.state s.number how
  keeps_left s hows.Expanded ranges all = All-head (Keeps task k states) (OfExpanded s) [] all
  keeps_left s (hows.Pruned cuts) ranges all =
      let ms : List CutMeaning = cuts_meaning task.atoms cuts in
      let first : Keeps task k states (OfPruned s ms) = All-head (Keeps task k states) (OfPruned s ms) (cut_lines s.state [] ms) all in
      let rest : All (Keeps task k states) (cut_lines s.state [] ms) = All-tail (Keeps task k states) (OfPruned s ms) (cut_lines s.state [] ms) all in
      let within : All (λ cut. cut.weight ≤ most) ms = All-map (λ cut. cut.weight ≤ most) (cut_meaning task.atoms) cuts (λ i d lt. (ranges i d lt).weight) in (
        first.0,
        record {
          lawful = record { each = kept_cuts s.state [] ms within rest; within = kept_charges s.state [] ms (λ action. omega arith) rest };
          enough = first.1;
        },
      )

  all_left : (list : List BoundState) → All InRange list → All (Keeps task k states) (lines task.atoms list) → All (λ s. (s.number < k) × LeftOf s) list
  all_left [] ranges all = All-nil (λ s. (s.number < k) × LeftOf s)
  all_left (s ∷ list) ranges all =
      All-cons (λ t. (t.number < k) × LeftOf t) s list
      (keeps_left (numbered s) s.how (All-head InRange s list ranges) (front (state_lines task.atoms s) (lines task.atoms list) all))
      (all_left list (All-tail InRange s list ranges) (back (state_lines task.atoms s) (lines task.atoms list) all))

  pub keeps_proof : All InRange states → All (Keeps task k states) (proof_lines task.atoms states) → IsBoundProof task k states
  keeps_proof ranges all =
      let left = all_left states ranges (All-tail (Keeps task k states) Own (lines task.atoms states) all) in
      record {
        start = All-head (Keeps task k states) Own (lines task.atoms states) all;
        below = λ i d lt. (left i d lt).0;
        each = λ i d lt. (left i d lt).1;
      }

-- What a task in rows means, and what its rows are once one more difference is decided.
use Rattle.std.proofs.Common.{◌≡◌, ℕ, ◌+◌, ◌*◌, ◌/◌, ◌%◌, ◌<◌, ◌≤◌, inl, inr, true, false, List, [], ◌∷◌, ◌++◌, length, take, drop, map, Some, unwrap_or, refl, sym, ap, ◌∙◌, subst, arith}
use Rattle.std.specs.Prelude.{slice_get}
use Rattle.std.specs.Option.{option_map}
use Rattle.std.specs.List.{range_with_len}
use Rattle.std.specs.FinSet as set
use Rattle.std.proofs.lemmas.Bool.{cases_lt, false≢true}
use Rattle.std.proofs.lemmas.List.{length-map}
use Rattle.std.proofs.lemmas.List.FromFn.{length-map-range_with_len, get_or-map-range_with_len, fill_by_all}
use Rattle.std.proofs.lemmas.Option.{slice_get_past, slice_get_within, unwrap_or-slice_get}
use Rattle.mre_base.specs.Sets.{BitSet}
use Rattle.mre_base.specs.declared.kind.Side.{Side}
use Rattle.mre_base.proofs.Listed.{item_at}
use Rattle.mre_base.proofs.Options.{one_item}
use Rattle.task_kit.proofs.AtomLemmas.{same_bits}
use Rattle.cube_kit.specs.Cubes.{CubeMeaning}
use Rattle.cube_kit.specs.Child.{child}
use Rattle.task_kit.specs.declared.action.TaskAction.{TaskAction}
use Rattle.task_kit.specs.Kept.{action_meaning}
use Rattle.task_kit.specs.Tasks.{TaskMeaning, IsAction, IsTask, action_at, no_action, as_bits, set_of, after}
use Rattle.task_kit.proofs.KeptLemmas.{below_listed, below_none}
use Rattle.case_kit.specs.declared.way.Way.{Way}
use Rattle.case_kit.specs.declared.action.CaseAction.{CaseAction}
use Rattle.case_kit.specs.declared.table.CaseTable.{CaseTable}
use Rattle.case_kit.specs.Evaluated.{atoms_where, action_where, counts, opposite, known_cost_by, relaxed}
use Rattle.case_kit.specs.Parts.{touches}
use Rattle.case_kit.proofs.CaseLists.{where_below}
use Rattle.case_kit.proofs.SoundLemmas.{cases_below}
use Rattle.case_kit.proofs.ChildLemmas.{child_law, one_passes}
use Rattle.cow_models.specs.Rows.{row_count, row_length, row_at, kept_action, kept_task, IsKept, IsAt, AreFrom, IsRow, AreRows}
use Rattle.cow_models.specs.Changed.{IsChangedAt, IsChanged, AreChanged}
use Rattle.cow_models.specs.Models.{ModelMeaning, IsModelOf}
use Rattle.cow_models.specs.Touched.{touches_row}
use Rattle.cow_models.proofs.RowLemmas.{pushed_cases, in_row}

-- ---- one more action of a row, one more row
pub from_push : (task : TaskMeaning) (first : ℕ) (old new : List TaskAction) (action : TaskAction) (place : ℕ) → new ≡ old ++ action ∷ [] → length old ≡ place → AreFrom task first old → IsAt task (first + place) action → AreFrom task first new
from_push task first old new action place now number before here k other at =
    elim (pushed_cases old action k other (ap (λ xs. slice_get xs k) (sym now) ∙ at)) [
      | inl there ↦ before k other there
      | inr last ↦ let same : place ≡ k = sym number ∙ sym last.0 in subst (λ a. IsAt task (first + k) a) last.1 (subst (λ m. IsAt task (first + m) action) same here)
    ]

pub rows_push : (task : TaskMeaning) (old new : List (List TaskAction)) (actions : List TaskAction) (row : ℕ) → new ≡ old ++ actions ∷ [] → length old ≡ row → AreRows task old → IsRow task row actions → AreRows task new
rows_push task old new actions row now number before here k other at =
    elim (pushed_cases old actions k other (ap (λ xs. slice_get xs k) (sym now) ∙ at)) [
      | inl there ↦ before k other there
      | inr last ↦ let same : row ≡ k = sym number ∙ sym last.0 in subst (IsRow task k) last.1 (subst (λ m. IsRow task m actions) same here)
    ]

-- ---- the task of the rows
module _ (rows : List (List TaskAction)) where
  kept_is : (i : ℕ) (actions : List TaskAction) (action : TaskAction) → slice_get rows (i / 16) ≡ Some actions → slice_get actions (i % 16) ≡ Some action → kept_action rows i ≡ action_meaning action
  kept_is i actions action at here =
      ap (λ o. unwrap_or (option_map action_meaning (slice_get (unwrap_or o []) (i % 16))) no_action) at
      ∙ ap (λ o. unwrap_or (option_map action_meaning o) no_action) here

  -- the row and the place of an action
  pub placed : (count i : ℕ) → length rows ≡ row_count count → ((row : ℕ) → length (row_at rows row) ≡ row_length count row) → i < count
      → (actions : List TaskAction) × (slice_get rows (i / 16) ≡ Some actions) × (i % 16 < length actions)
  placed count i number lengths lt =
      let found = item_at rows (i / 16) (omega (arith, number)) in
      let same : row_at rows (i / 16) ≡ found.0 = ap (λ o. unwrap_or o []) found.1 in
      (found.0, found.1, omega (arith, lengths (i / 16), ap length same))

  -- rows of a task are as long as rows are
  lengths_of : (task : TaskMeaning) → AreRows task rows → length rows ≡ row_count (length task.actions) → (row : ℕ) → length (row_at rows row) ≡ row_length (length task.actions) row
  lengths_of task are number row =
      elim (cases_lt row (length rows)) [
        | inl lt ↦ let found = item_at rows row lt in ap (λ o. length (unwrap_or o [])) found.1 ∙ (are row found.0 found.1).length_is
        | inr past ↦ let none : length (row_at rows row) ≡ 0 = ap (λ o. length (unwrap_or o [])) (slice_get_past rows row past) in omega (arith, none, number)
      ]

  module _ (task : TaskMeaning) (are : AreRows task rows) (number : length rows ≡ row_count (length task.actions)) where
    pub rows_lengths : (row : ℕ) → length (row_at rows row) ≡ row_length (length task.actions) row
    rows_lengths = lengths_of task are number

    at_number : (i : ℕ) → i < length task.actions → (action : TaskAction) × (kept_action rows i ≡ action_meaning action) × IsAt task i action
    at_number i lt =
        let row = placed (length task.actions) i number rows_lengths lt in
        let found = item_at row.0 (i % 16) row.2 in
        let same : 16 * (i / 16) + i % 16 ≡ i = omega arith in
        (found.0, kept_is i row.0 found.0 row.1 found.1, subst (λ m. IsAt task m found.0) same ((are (i / 16) row.0 row.1).each (i % 16) found.0 found.1))

    -- the actions in the rows are those of the task
    pub rows_actions : map (kept_action rows) (range_with_len 0 (length task.actions)) ≡ task.actions
    rows_actions = sym (fill_by_all (kept_action rows) task.actions (length task.actions) no_action refl (λ k lt.
        let found = at_number k lt in sym (unwrap_or-slice_get task.actions k no_action) ∙ sym found.2.is ∙ sym found.1))

    pub rows_in_range : (i : ℕ) → IsAction task.atoms (action_at task i)
    rows_in_range i = elim (cases_lt i (length task.actions)) [
      | inl lt ↦ let found = at_number i lt in subst (IsAction task.atoms) found.2.is found.2.in_range
      | inr past ↦ subst (IsAction task.atoms) (sym (ap (λ o. unwrap_or o no_action) (slice_get_past task.actions i past))) nothing
    ] where
      nothing : IsAction task.atoms no_action
      nothing = record { pre = below_none _ _ refl; add = below_none _ _ refl; del = below_none _ _ refl; cost = omega arith }

-- ---- the rows of a task of a cube are a task
module _ (table : CaseTable) (cube : CubeMeaning) (way : Way) where
  pub same_count : length (relaxed way table cube).actions ≡ length table.actions
  same_count = length-map table.actions (action_where (counts way cube) (counts (opposite way) cube) (known_cost_by way cube))

  module _ (rows : List (List TaskAction)) (are : AreRows (relaxed way table cube) rows) (number : length rows ≡ row_count (length table.actions)) where
    number_is : length rows ≡ row_count (length (relaxed way table cube).actions)
    number_is = number ∙ ap row_count (sym same_count)

    task_in_range : IsTask (relaxed way table cube)
    task_in_range =
        let few_atoms = table.sound.few_atoms in
        let few_actions = table.sound.few_actions in
        record {
          few_atoms = omega arith;
          few_actions = omega (arith, same_count);
          start = below_listed table.atoms (atoms_where (counts way cube) table.start) (where_below table.atoms (counts way cube) table.start (cases_below table.d table.atoms table.atoms table.start (omega arith) table.sound.starts));
          goal = below_listed (table.atoms + 1) (atoms_where (counts (opposite way) cube) table.goal) (where_below (table.atoms + 1) (counts (opposite way) cube) table.goal (cases_below table.d (table.atoms + 1) (table.atoms + 1) table.goal (omega arith) table.sound.goals));
          each = rows_in_range rows (relaxed way table cube) are number_is;
        }

    module _ (start goal : BitSet) (count : ℕ) (starts : start ≡ as_bits (relaxed way table cube) (relaxed way table cube).start) (goals : goal ≡ as_bits (relaxed way table cube) (relaxed way table cube).goal) (counted : count ≡ length table.actions) where
      pub task_is : kept_task table.atoms start goal count rows ≡ relaxed way table cube
      task_is =
          let first : start.members ≡ (relaxed way table cube).start = ap (λ b. b.members) starts in
          let last : goal.members ≡ (relaxed way table cube).goal = ap (λ b. b.members) goals in
          let all : map (kept_action rows) (range_with_len 0 count) ≡ (relaxed way table cube).actions =
          ap (λ n. map (kept_action rows) (range_with_len 0 n)) (counted ∙ sym same_count) ∙ rows_actions rows (relaxed way table cube) are number_is in
          λ j. record { atoms = table.atoms; start = first j; goal = last j; actions = all j }

      pub is_kept : IsKept table.atoms start goal count rows
      is_kept =
          record {
            start_width = ap (λ b. b.width) starts;
            goal_width = ap (λ b. b.width) goals;
            in_range = subst IsTask (sym task_is) task_in_range;
            number = number ∙ ap row_count (sym counted);
            lengths = λ row. rows_lengths rows (relaxed way table cube) are number_is row ∙ ap (λ n. row_length n row) (same_count ∙ sym counted);
          }

-- ---- the rows of a kept task
module _ (atoms : ℕ) (start goal : BitSet) (count : ℕ) (rows : List (List TaskAction)) (kept : IsKept atoms start goal count rows) where
  pub kept_count : length (kept_task atoms start goal count rows).actions ≡ count
  kept_count = length-map-range_with_len (kept_action rows) 0 count

  pub kept_at : (i : ℕ) → i < count → action_at (kept_task atoms start goal count rows) i ≡ kept_action rows i
  kept_at i lt = unwrap_or-slice_get (kept_task atoms start goal count rows).actions i no_action ∙ get_or-map-range_with_len (kept_action rows) 0 count i i no_action lt (omega arith)

  pub action_kept : (i : ℕ) (actions : List TaskAction) (action : TaskAction) → i < count → slice_get rows (i / 16) ≡ Some actions → slice_get actions (i % 16) ≡ Some action → IsAt (kept_task atoms start goal count rows) i action
  action_kept i actions action lt at here =
      let is : action_meaning action ≡ action_at (kept_task atoms start goal count rows) i = sym (kept_at i lt ∙ kept_is rows i actions action at here) in
      record { is = is; in_range = subst (IsAction atoms) (sym is) (kept.in_range.each i) }

  pub kept_rows : AreRows (kept_task atoms start goal count rows) rows
  kept_rows row actions at =
      let long : length actions ≡ row_length count row = sym (ap (λ o. length (unwrap_or o [])) at) ∙ kept.lengths row in
      record {
        length_is = long ∙ ap (λ n. row_length n row) (sym kept_count);
        each = λ k action here.
            let within = slice_get_within actions k action here in
            let quotient : row ≡ (16 * row + k) / 16 = omega (arith, long, within) in
            let rest : k ≡ (16 * row + k) % 16 = omega (arith, long, within) in
            action_kept (16 * row + k) actions action (omega (arith, long, within)) (ap (slice_get rows) (sym quotient) ∙ at) (ap (slice_get actions) (sym rest) ∙ here);
      }

-- ---- one more difference is decided
module _ (table : CaseTable) (cube : CubeMeaning) (way : Way) (place : ℕ) (side : Side) where
  changed_row : (row : ℕ) (old new : List TaskAction) → IsRow (relaxed way table cube) row old → IsChanged table (child cube place side) way place (16 * row) old new → IsRow (relaxed way table (child cube place side)) row new
  changed_row row old new is changed =
      record {
        length_is = changed.same_length ∙ is.length_is ∙ ap (λ n. row_length n row) (same_count table cube way ∙ sym (same_count table (child cube place side) way));
        each = λ k action here. at_place k action here (item_at table.actions (16 * row + k) (omega (arith, is.length_is, changed.same_length, same_count table cube way, slice_get_within new k action here)));
      } where
        at_place : (k : ℕ) (action : TaskAction) → slice_get new k ≡ Some action → (cases : CaseAction) × (slice_get table.actions (16 * row + k) ≡ Some cases) → IsAt (relaxed way table (child cube place side)) (16 * row + k) action
        at_place k action here (cases, there) =
            elim (touches cases place) as (λ b. touches cases place ≡ b → IsAt (relaxed way table (child cube place side)) (16 * row + k) action) [
              | true ↦ λ so. (changed.each k).touched action cases here there so
              | false ↦ λ off.
                  let was = is.each k action (sym ((changed.each k).other cases there off) ∙ here) in
                  record { is = was.is ∙ sym (child_law way table cube place side (16 * row + k) cases there off); in_range = was.in_range }
            ] refl

  pub changed_rows : (old new : List (List TaskAction)) → AreRows (relaxed way table cube) old → AreChanged table (child cube place side) way place old new → AreRows (relaxed way table (child cube place side)) new
  changed_rows old new are changed row actions at =
      let found = item_at old row (omega (arith, changed.same_number, slice_get_within new row actions at)) in
      changed_row row found.0 actions (are row found.0 found.1) (changed.rows row found.0 actions found.1 at)

-- ---- a row that the difference doesn't touch
pub untouched : (table : CaseTable) (cube : CubeMeaning) (way : Way) (place row : ℕ) (old new : List TaskAction) → length old ≡ row_length (length table.actions) row → touches_row table place row ≡ false → new ≡ old
    → IsChanged table cube way place (16 * row) old new
untouched table cube way place row old new long none same =
    record {
      same_length = ap length same;
      each = λ k. record {
        touched = λ action cases here there so.
            let few : k < 16 = omega (arith, long, ap length same, slice_get_within new k action here) in
            absurd (false≢true (sym none ∙ sym (one_passes (λ (a : CaseAction). touches a place) (take 16 (drop (16 * row) table.actions)) k cases (in_row table.actions (16 * row) k cases few there) so)));
        other = λ cases there off. ap (λ xs. slice_get xs k) same;
      };
    }

-- ---- one more row
pub changed_push : (table : CaseTable) (cube : CubeMeaning) (way : Way) (place : ℕ) (old made new : List (List TaskAction)) (row : ℕ) (before after : List TaskAction) → new ≡ made ++ after ∷ [] → length made ≡ row
    → slice_get old row ≡ Some before → IsChanged table cube way place (16 * row) before after
    → ((k : ℕ) (one other : List TaskAction) → slice_get old k ≡ Some one → slice_get made k ≡ Some other → IsChanged table cube way place (16 * k) one other)
    → (k : ℕ) (one other : List TaskAction) → slice_get old k ≡ Some one → slice_get new k ≡ Some other → IsChanged table cube way place (16 * k) one other
changed_push table cube way place old made new row before after now number here changed all k one other was at =
    elim (pushed_cases made after k other (ap (λ xs. slice_get xs k) (sym now) ∙ at)) [
      | inl there ↦ all k one other was there
      | inr last ↦
          let same : row ≡ k = sym number ∙ sym last.0 in
          let first : before ≡ one = let both : Some before ≡ Some one = sym here ∙ ap (slice_get old) same ∙ was in cc in
          subst (λ m. IsChanged table cube way place (16 * m) one other) same (subst (λ xs. IsChanged table cube way place (16 * row) xs other) first (subst (IsChanged table cube way place (16 * row) before) last.1 changed))
    ]

-- ---- actions changed one after another
module _ (table : CaseTable) (cube : CubeMeaning) (way : Way) (place first : ℕ) (old current new : List TaskAction) where
  changed_before : (k : ℕ) → slice_get new k ≡ slice_get current k → IsChangedAt table cube way place first old current k → IsChangedAt table cube way place first old new k
  changed_before k same was = record { touched = λ action cases here. was.touched action cases (sym same ∙ here); other = λ cases there off. same ∙ was.other cases there off }

  module _ (at : ℕ) (cases : CaseAction) (there : slice_get table.actions (first + at) ≡ Some cases) where
    pub changed_here : (action : TaskAction) → slice_get new at ≡ Some action → touches cases place ≡ true → IsAt (relaxed way table cube) (first + at) action → IsChangedAt table cube way place first old new at
    changed_here action here so is =
        record {
          touched = λ one also at_one at_also so. subst (IsAt (relaxed way table cube) (first + at)) (one_item _ action one here at_one) is;
          other = λ also at_also off. absurd (false≢true (sym off ∙ ap (λ a. touches a place) (one_item _ also cases at_also there) ∙ so));
        }

    pub left_here : slice_get new at ≡ slice_get old at → touches cases place ≡ false → IsChangedAt table cube way place first old new at
    left_here same off =
        record {
          touched = λ one also at_one at_also so. absurd (false≢true (sym off ∙ ap (λ a. touches a place) (one_item _ cases also there at_also) ∙ so));
          other = λ also at_also off. same;
        }

  pub more_changed : (at : ℕ) → ((k : ℕ) → k < at → IsChangedAt table cube way place first old current k) → ((k : ℕ) → k < at → slice_get new k ≡ slice_get current k) → IsChangedAt table cube way place first old new at
      → (k : ℕ) → k < at + 1 → IsChangedAt table cube way place first old new k
  more_changed at before same here k lt =
      elim (cases_lt k at) [
        | inl less ↦ changed_before k (same k less) (before k less)
        | inr past ↦ let last : at ≡ k = omega arith in subst (IsChangedAt table cube way place first old new) last here
      ]

pub all_changed : (table : CaseTable) (cube : CubeMeaning) (way : Way) (place first : ℕ) (old new : List TaskAction) (at : ℕ) → length new ≡ length old → length old ≤ at
    → ((k : ℕ) → k < at → IsChangedAt table cube way place first old new k) → IsChanged table cube way place first old new
all_changed table cube way place first old new at same past before =
    record {
      same_length = same;
      each = λ k. elim (cases_lt k at) [
        | inl lt ↦ before k lt
        | inr end ↦ record {
          touched = λ action cases here there so. absurd (none k (slice_get_within new k action here) end);
          other = λ cases there off. slice_get_past new k (omega (arith, same)) ∙ sym (slice_get_past old k (omega arith));
        }
      ];
    } where
      none : (k : ℕ) → k < length new → at ≤ k → ⊥
      none k lt le = omega (arith, same)

-- ---- the rows of a model of a table
module _ (table : CaseTable) (way : Way) (cube : CubeMeaning) (atoms : ℕ) (start goal : BitSet) (count : ℕ) (rows : List (List TaskAction)) (kept : IsKept atoms start goal count rows)
    (model : IsModelOf table (record { way = way; cube = cube; task = kept_task atoms start goal count rows })) where
  pub model_task : kept_task atoms start goal count rows ≡ relaxed way table cube
  model_task = ap (λ (m : ModelMeaning). m.task) model

  pub model_count : count ≡ length table.actions
  model_count = sym (kept_count atoms start goal count rows kept) ∙ ap (λ (t : TaskMeaning). length t.actions) model_task ∙ same_count table cube way

  pub model_number : length rows ≡ row_count (length table.actions)
  model_number = kept.number ∙ ap row_count model_count

  pub model_lengths : (row : ℕ) → length (row_at rows row) ≡ row_length (length table.actions) row
  model_lengths row = kept.lengths row ∙ ap (λ n. row_length n row) model_count

  pub model_rows : AreRows (relaxed way table cube) rows
  model_rows = subst (λ t. AreRows t rows) model_task (kept_rows atoms start goal count rows kept)

-- ---- the successor by the listed deletes and adds of an action
pub next_is : (task : TaskMeaning) (i : ℕ) (a : TaskAction) (state copied without with : BitSet) (del add : List ℕ) → action_meaning a ≡ action_at task i → state.width ≡ task.atoms + 1 → copied ≡ state
    → del ≡ a.del → without ≡ record { width = copied.width; members = set.difference copied.members (set_of del) }
    → add ≡ a.add → with ≡ record { width = without.width; members = set.union without.members (set_of add) }
    → with ≡ as_bits task (after task i state.members)
unfolding after
next_is task i a state copied without with del add e wide ec ed ew ea is =
    let members : set.union without.members (set_of add) ≡ set.union (set.difference copied.members (set_of del)) (set_of a.add) = λ j. set.union ((ap (λ b. b.members) ew) j) (set_of (ea j)) in
    let listed : set.union (set.difference copied.members (set_of del)) (set_of a.add) ≡ set.union (set.difference state.members (set_of a.del)) (set_of a.add) =
    λ j. set.union (set.difference ((ap (λ b. b.members) ec) j) (set_of (ed j))) (set_of a.add) in
    is
    ∙ same_bits _ _ _ _ (ap (λ b. b.width) ew ∙ ap (λ b. b.width) ec ∙ wide)
    (members ∙ listed ∙ ap (λ m. set.union (set.difference state.members m.del) m.add) e)

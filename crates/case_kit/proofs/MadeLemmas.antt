-- The parts of a task of a cube, as they are made one after another.
use Rattle.std.proofs.Common.{◌≡◌, ℕ, true, ◌+◌, ◌<◌, ◌^◌, List, [], ◌∷◌, ◌++◌, length, get_or, take, map, All, Option, Some, unwrap_or, sym, ap, ◌∙◌, arith, subst}
use Rattle.std.specs.Prelude.{slice_get}
use Rattle.std.proofs.lemmas.List.{take_more, map-append, length-map}
use Rattle.std.proofs.lemmas.Option.{unwrap_or-slice_get}
use Rattle.mre_base.specs.Sets.{BitSet}
use Rattle.cube_kit.specs.Cubes.{CubeMeaning, IsCube, is_member}
use Rattle.cube_kit.proofs.CubeLemmas.{told_is_member}
use Rattle.task_kit.specs.declared.action.TaskAction.{TaskAction}
use Rattle.task_kit.specs.Kept.{action_meaning, task_meaning}
use Rattle.task_kit.specs.Tasks.{ActionMeaning, IsAction, IsTask, AllBelow, set_of, no_action, action_at, as_bits}
use Rattle.task_kit.proofs.KeptLemmas.{below_listed, lists_in_range, kept_in_range}
use Rattle.case_kit.specs.declared.way.Way.{Way}
use Rattle.case_kit.specs.declared.action.CaseAction.{CaseAction}
use Rattle.case_kit.specs.declared.table.CaseTable.{CaseTable}
use Rattle.case_kit.specs.Evaluated.{atoms_where, action_where, counts, opposite, known_cost_by, relaxed}
use Rattle.case_kit.proofs.CaseLists.{where_below}
use Rattle.case_kit.proofs.SoundLemmas.{cases_below, action_sound}
use Rattle.case_kit.proofs.RelaxedLemmas.{action_there}

-- a cube of the differences has its told set as a member
pub cube_live : (table : CaseTable) (cube : CubeMeaning) → IsCube table.d cube → is_member cube cube.told ≡ true
cube_live table cube whole = told_is_member table.d cube whole

module _ (table : CaseTable) (cube : CubeMeaning) (way : Way) where
  -- ---- an action
  module _ (i : ℕ) (a : CaseAction) (at : slice_get table.actions i ≡ Some a) where
    pub cost_made : (cost : Option ℕ) → cost ≡ known_cost_by way cube a → cost ≡ (action_at (relaxed way table cube) i).cost
    cost_made cost e = e ∙ sym (ap (λ (m : ActionMeaning). m.cost) (action_there (counts way cube) (counts (opposite way) cube) (known_cost_by way cube) table i a at))

    pub action_made : (made : TaskAction) → made.pre ≡ atoms_where (counts (opposite way) cube) a.pre → made.add ≡ atoms_where (counts way cube) a.add → made.del ≡ atoms_where (counts (opposite way) cube) a.del
        → made.cost ≡ known_cost_by way cube a → action_meaning made ≡ action_at (relaxed way table cube) i
    action_made made pre add del cost =
        let same : action_meaning made ≡ action_where (counts way cube) (counts (opposite way) cube) (known_cost_by way cube) a =
        λ j. record { pre = set_of (pre j); add = set_of (add j); del = set_of (del j); cost = cost j } in
        same ∙ sym (action_there (counts way cube) (counts (opposite way) cube) (known_cost_by way cube) table i a at)

    pub action_fits : (made : TaskAction) → made.pre ≡ atoms_where (counts (opposite way) cube) a.pre → made.add ≡ atoms_where (counts way cube) a.add → made.del ≡ atoms_where (counts (opposite way) cube) a.del
        → unwrap_or made.cost 0 < 2 ^ 32 → IsAction table.atoms (action_meaning made)
    action_fits made pre add del fits =
        let sound = action_sound table i a at in
        lists_in_range table.atoms made
        (subst (All (λ x. x < table.atoms + 1)) (sym pre) (where_below (table.atoms + 1) (counts (opposite way) cube) a.pre (cases_below table.d (table.atoms + 1) (table.atoms + 1) a.pre (omega arith) sound.pre)))
        (subst (All (λ x. x < table.atoms)) (sym add) (where_below table.atoms (counts way cube) a.add (cases_below table.d table.atoms table.atoms a.add (omega arith) sound.add)))
        (subst (All (λ x. x < table.atoms + 1)) (sym del) (where_below (table.atoms + 1) (counts (opposite way) cube) a.del (cases_below table.d (table.atoms + 1) (table.atoms + 1) a.del (omega arith) sound.del))) fits

  -- ---- one action more
  pub actions_more : (made new : List TaskAction) (action : TaskAction) (i : ℕ) → new ≡ made ++ action ∷ [] → i < length table.actions → map action_meaning made ≡ take i (relaxed way table cube).actions
      → action_meaning action ≡ action_at (relaxed way table cube) i → map action_meaning new ≡ take (i + 1) (relaxed way table cube).actions
  actions_more made new action i e lt before is =
      let all : List ActionMeaning = (relaxed way table cube).actions in
      let within : i < length all = omega (arith, length-map table.actions (action_where (counts way cube) (counts (opposite way) cube) (known_cost_by way cube))) in
      let last : action_meaning action ≡ get_or all i no_action = is ∙ unwrap_or-slice_get all i no_action in
      ap (map action_meaning) e ∙ map-append action_meaning made (action ∷ []) ∙ (λ j. before j ++ last j ∷ []) ∙ sym (take_more all i no_action within)

  -- ---- the task
  module _ (start goal : BitSet) (actions : List TaskAction) (starts : start ≡ as_bits (relaxed way table cube) (relaxed way table cube).start) (goals : goal ≡ as_bits (relaxed way table cube) (relaxed way table cube).goal)
      (all : map action_meaning actions ≡ (relaxed way table cube).actions) where
    pub task_made : task_meaning table.atoms start goal actions ≡ relaxed way table cube
    task_made =
        let first : start.members ≡ (relaxed way table cube).start = ap (λ b. b.members) starts in
        let last : goal.members ≡ (relaxed way table cube).goal = ap (λ b. b.members) goals in
        λ j. record { atoms = table.atoms; start = first j; goal = last j; actions = all j }

    same_number : length actions ≡ length table.actions
    same_number = sym (length-map actions action_meaning) ∙ ap length all ∙ length-map table.actions (action_where (counts way cube) (counts (opposite way) cube) (known_cost_by way cube))

    pub task_fits : All (λ action. IsAction table.atoms (action_meaning action)) actions → IsTask (task_meaning table.atoms start goal actions)
    task_fits each =
        let few_atoms = table.sound.few_atoms in
        let few_actions = table.sound.few_actions in
        kept_in_range table.atoms start goal actions (omega arith) (omega (arith, same_number))
        (subst (AllBelow table.atoms) (sym (ap (λ b. b.members) starts)) (below_listed table.atoms (atoms_where (counts way cube) table.start) (where_below table.atoms (counts way cube) table.start (cases_below table.d table.atoms table.atoms table.start (omega arith) table.sound.starts))))
        (subst (AllBelow (table.atoms + 1)) (sym (ap (λ b. b.members) goals)) (below_listed (table.atoms + 1) (atoms_where (counts (opposite way) cube) table.goal) (where_below (table.atoms + 1) (counts (opposite way) cube) table.goal (cases_below table.d (table.atoms + 1) (table.atoms + 1) table.goal (omega arith) table.sound.goals))))
        each

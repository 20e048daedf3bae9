-- What a model means: one of the two relaxed tasks of a cube.
use Rattle.std.specs.Prelude.{ℕ, ◌≡◌, Bool, true, false, List, Option, refl}
use Rattle.std.specs.Coded.{Coded, code_by, coded×, coded_ℕ, coded_bool, coded_list, coded_option}
use Rattle.std.specs.Ordering.{nat_cmp}
use Rattle.std.specs.FinSet as set
use Rattle.cube_kit.specs.Cubes.{CubeMeaning, cube_code}
use Rattle.task_kit.specs.Tasks.{ActionMeaning, TaskMeaning}
use Rattle.case_kit.specs.declared.way.Way.{Way}
use Rattle.case_kit.specs.declared.way.Way.TheVariants.{Permissive, Restrictive}
use Rattle.case_kit.specs.declared.table.CaseTable.{CaseTable}
use Rattle.case_kit.specs.Evaluated.{relaxed}

-- which of the two tasks it is, its cube, and the task
pub record ModelMeaning : Type 0 where
  pub way : Way
  pub cube : CubeMeaning
  pub task : TaskMeaning

-- how a way, an action, a task and a model are stored
abbrev pub is_permissive : Way → Bool
is_permissive Permissive = true
is_permissive Restrictive = false

abbrev pub way_of : Bool → Way
way_of true = Permissive
way_of false = Restrictive

abbrev pub way_back : (way : Way) → way_of (is_permissive way) ≡ way
way_back Permissive = refl
way_back Restrictive = refl

abbrev pub way_code : Coded Way
way_code = code_by Bool coded_bool is_permissive way_of way_back

abbrev pub action_code : Coded ActionMeaning
action_code =
    code_by (set.FinSet nat_cmp × (set.FinSet nat_cmp × (set.FinSet nat_cmp × Option ℕ)))
    (coded× (set.code coded_ℕ)
    (coded× (set.code coded_ℕ) (coded× (set.code coded_ℕ) (coded_option coded_ℕ))))
    (λ a. (a.pre, (a.add, (a.del, a.cost))))
    (λ p. record { pre = p.0; add = p.1.0; del = p.1.1.0; cost = p.1.1.1 }) (λ _. refl)

abbrev pub task_code : Coded TaskMeaning
task_code =
    code_by (ℕ × (set.FinSet nat_cmp × (set.FinSet nat_cmp × List ActionMeaning)))
    (coded× coded_ℕ
    (coded× (set.code coded_ℕ) (coded× (set.code coded_ℕ) (coded_list action_code))))
    (λ t. (t.atoms, (t.start, (t.goal, t.actions))))
    (λ p. record { atoms = p.0; start = p.1.0; goal = p.1.1.0; actions = p.1.1.1 }) (λ _. refl)

abbrev pub model_code : Coded ModelMeaning
model_code =
    code_by (Way × (CubeMeaning × TaskMeaning)) (coded× way_code (coded× cube_code task_code))
    (λ m. (m.way, (m.cube, m.task)))
    (λ p. record { way = p.0; cube = p.1.0; task = p.1.1 }) (λ _. refl)

-- the model of one of the two tasks of a cube of a table
abbrev pub model_of : CaseTable → CubeMeaning → Way → ModelMeaning
model_of table cube way = record { way = way; cube = cube; task = relaxed way table cube }

-- the model is one of this table
abbrev pub IsModelOf : CaseTable → ModelMeaning → Type 0
IsModelOf table model = model ≡ model_of table model.cube model.way

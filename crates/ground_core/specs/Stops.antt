-- Why two models have no table: more is reachable in them than a table may list.
use Rattle.std.specs.Prelude.{◌≡◌, ⊤}
use Rattle.model_kit.specs.declared.model.Model.{Model}
use Rattle.reach_kit.specs.declared.world.ReachStop.{ReachStop}
use Rattle.reach_kit.specs.declared.world.ReachStop.TheVariants as reached
use Rattle.reach_kit.specs.Relaxed.{MoreThan}
use Rattle.feature_diff.specs.declared.difference.Difference.{Difference}
use Rattle.named_tables.specs.Reachable.{Reachable, Atom, Action}
use Rattle.pair_rules.specs.Ruled.{models_of}
use Rattle.std.specs.Prelude.{List}
use Rattle.ground_core.specs.declared.stop.GroundStop.{GroundStop}
use Rattle.ground_core.specs.declared.stop.GroundStop.TheVariants.{TooManyActions, TooManyAtoms}
use Rattle.ground_core.specs.declared.stop.GroundStop.TheVariants.{NoMemory}

abbrev pub no_memory : GroundStop
no_memory = NoMemory

abbrev pub stop_of : ReachStop → GroundStop
stop_of (reached.TooManyAtoms limit) = TooManyAtoms limit
stop_of (reached.TooManyActions limit) = TooManyActions limit
stop_of reached.NoMemory = NoMemory

-- more than 4,096 atoms are reachable, or more than 50,000 actions
abbrev pub ManyAtoms : Model → Model → List Difference → Type 0
ManyAtoms planner user differences =
    MoreThan 4096 (λ atom. Reachable (models_of planner user differences) (Atom atom))

abbrev pub ManyActions : Model → Model → List Difference → Type 0
ManyActions planner user differences =
    MoreThan 50000 (λ action. Reachable (models_of planner user differences) (Action action))

-- the limit that is reported is passed; only running out of memory needs no cause
abbrev pub Exceeds : Model → Model → List Difference → GroundStop → Type 0
Exceeds planner user differences (TooManyAtoms limit) =
    (limit ≡ 4096) × ManyAtoms planner user differences
Exceeds planner user differences (TooManyActions limit) =
    (limit ≡ 50000) × ManyActions planner user differences
Exceeds planner user differences NoMemory = ⊤

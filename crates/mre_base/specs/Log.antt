-- The log of a search: a limit and distinct nodes, and the meaning of each answer of a push.
use Rattle.std.specs.Prelude.{◌≡◌, ◌<◌, ◌≤◌, ◌^◌, ℕ, List, [], ◌∷◌, ◌++◌, length, slice_get, Some}
use Rattle.std.specs.Prelude.{Result, Ok, Err, Contains, refl}
use Rattle.std.specs.Coded.{Coded, code_by, coded×, coded_ℕ, coded_list}
use Rattle.mre_base.specs.declared.node.Node.{Node}
use Rattle.mre_base.specs.contracts.node.Node.{the_row}
use Rattle.mre_base.specs.declared.node_log.PushStop.{PushStop}
use Rattle.mre_base.specs.declared.node_log.PushStop.TheVariants.{There, Full, NoMemory}

pub record Log : Type 0 where
  pub limit : ℕ
  pub nodes : List Node

-- a log is stored as the pair of its parts
abbrev pub log_code : Coded Log
log_code =
    code_by (ℕ × List Node) (coded× coded_ℕ (coded_list the_row.coded))
    (λ log. (log.limit, log.nodes)) (λ pair. record { limit = pair.0; nodes = pair.1 })
    (λ _. refl)

-- there are at most as many nodes as the limit, which fits in 32 bits
pub record IsWithinLimit (limit : ℕ) (nodes : List Node) : Type 0 where
  pub few : length nodes ≤ limit
  pub fits : limit < 2 ^ 32

-- Ok: the node is new, there is room, and the node is put at the end. There: the node is at this
-- place. Full: the node is new, and the log has as many nodes as its limit. NoMemory: the node is
-- new, and there is room. Only Ok changes the log
abbrev pub PushAnswers : Log → Log → Node → Result ℕ PushStop → Type 0
PushAnswers old new node (Ok place) =
    ¬ Contains old.nodes node × (length old.nodes < old.limit) × (place ≡ length old.nodes)
    × (new ≡ record old { nodes = old.nodes ++ node ∷ [] })
PushAnswers old new node (Err (There place)) = (slice_get old.nodes place ≡ Some node) × (new ≡ old)
PushAnswers old new node (Err (Full back)) =
    ¬ Contains old.nodes node × (length old.nodes ≡ old.limit) × (back ≡ node) × (new ≡ old)
PushAnswers old new node (Err NoMemory) =
    ¬ Contains old.nodes node × (length old.nodes < old.limit) × (new ≡ old)

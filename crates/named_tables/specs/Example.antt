-- A small pair and its table: the planner walks to (p), which the user believes to be true at once.
use Rattle.std.specs.Prelude.{◌≡◌, List, [], ◌∷◌, Some, codes, refl}
use Rattle.model_kit.specs.declared.vocabulary.Vocabulary.{Vocabulary}
use Rattle.model_kit.specs.declared.model.Model.{Model}
use Rattle.model_kit.specs.declared.model.Schema.{Schema}
use Rattle.model_kit.specs.declared.model.CostExpr.TheVariants.{Number}
use Rattle.model_kit.specs.declared.atom.GroundAtom.{GroundAtom}
use Rattle.model_kit.specs.declared.atom.SchemaAtom.{SchemaAtom}
use Rattle.model_kit.specs.declared.action.GroundAction.{GroundAction}
use Rattle.model_kit.specs.Places.{Init, meaning}
use Rattle.case_kit.specs.declared.cases.When.TheVariants.{Always, IfLeft}
use Rattle.case_kit.specs.declared.cases.When.{When}
use Rattle.case_kit.specs.declared.cases.Case.{Case}
use Rattle.case_kit.specs.declared.costs.CaseValue.TheVariants as values
use Rattle.case_kit.specs.declared.costs.CaseCost.TheVariants as costs
use Rattle.case_kit.specs.declared.action.CaseAction.{CaseAction}
use Rattle.case_kit.specs.declared.table.CaseTable.{CaseTable}
use Rattle.named_tables.specs.Models.{Models}
use Rattle.named_tables.specs.Numbered.{ListsReachable}
use Rattle.named_tables.specs.Tables.{IsTableOf}

-- one predicate (p), and one action (walk)
abbrev pub words : Vocabulary
words = record {
  types = (codes "object", 0) ∷ [];
  objects = [];
  predicates = record { name = codes "p"; params = [] } ∷ [];
  functions = [];
  actions = record { name = codes "walk"; params = [] } ∷ [];
  sound = refl;
}

abbrev pub p : GroundAtom
p = record { predicate = 0; objects = [] }

abbrev pub added : SchemaAtom
added = record { predicate = 0; args = [] }

abbrev pub walk : GroundAction
walk = record { schema = 0; objects = [] }

-- walk makes (p) true and costs 2
abbrev pub walking : Schema
walking = record { pre = []; add = added ∷ []; del = []; cost = Number 2 }

-- in the planner's model nothing is true at first
abbrev pub planner : Model
planner =
    record {
      words = words;
      init = [];
      goal = p ∷ [];
      schemas = walking ∷ [];
      values = [];
      unknown = [];
      sound = refl;
    }

-- in the user's model (p) is
abbrev pub user : Model
user =
    record {
      words = words;
      init = p ∷ [];
      goal = p ∷ [];
      schemas = walking ∷ [];
      values = [];
      unknown = [];
      sound = refl;
    }

-- 1 initially (p) is not true
abbrev pub models : Models
models =
    record { words = words; planner = meaning planner; user = meaning user; places = Init p ∷ [] }

-- (p) under a condition
abbrev pub case_when : When → Case
case_when when = record { atom = 0; when = when }

abbrev pub walk_cases : CaseAction
walk_cases =
    record {
      pre = [];
      add = case_when Always ∷ [];
      del = [];
      cost = costs.One
          (values.One (Some 2));
      known = Always;
    }

-- (p) and (walk) may be reached, and no lists without (walk) are those that may; a table is that of
-- the models in which (p) is there at the start where the difference is left, and none is in which
-- it is always there
pub record ExampleLaw : Type 0 where
  pub reached : ListsReachable models (p ∷ []) (walk ∷ [])
  pub without_walk : (atoms : List GroundAtom) → ListsReachable models atoms [] → ⊥
  pub is_table : (table : CaseTable) → table.atoms ≡ 1 → table.start ≡ case_when (IfLeft 1) ∷ []
      → table.goal ≡ case_when Always ∷ [] → table.actions ≡ walk_cases ∷ [] →
      IsTableOf models (p ∷ []) (walk ∷ []) table
  pub always_there : (table : CaseTable) → table.start ≡ case_when Always ∷ []
      → IsTableOf models (p ∷ []) (walk ∷ []) table → ⊥

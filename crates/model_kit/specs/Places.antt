-- What a model is: each of its places has a feature that is on or off, a cost expression, or the
-- value of a function. The features are those of action schemas in place of their ground instances;
-- apart from that they are after Chakraborti et al., IJCAI 2017.
use Rattle.std.specs.Prelude.{ℕ, ◌==◌, ◌&&◌, not, nat_lt, Bool, false, List, [], ◌∷◌, length}
use Rattle.std.specs.Prelude.{Option, None, Some, slice_get, if◌then◌else◌}
use Rattle.std.specs.List.{list_any}
use Rattle.std.specs.Option.{option_map_or}
use Rattle.model_kit.specs.declared.model.Model.{Model}
use Rattle.model_kit.specs.declared.model.Schema.{Schema}
use Rattle.model_kit.specs.declared.model.CostExpr.{CostExpr}
use Rattle.model_kit.specs.declared.atom.SchemaAtom.{SchemaAtom}
use Rattle.model_kit.specs.declared.atom.GroundAtom.{GroundAtom}
use Rattle.model_kit.specs.Same.{same_numbers, same_atom, same_schema_atom}

-- an initial fact, a goal fact, the knowledge of an action, a precondition, add or delete of an
-- action, its cost, the value of a function at objects
pub data Place : Type 0 where
  Init : GroundAtom → Place
  Goal : GroundAtom → Place
  Knows : ℕ → Place
  Pre : ℕ → SchemaAtom → Place
  Add : ℕ → SchemaAtom → Place
  Del : ℕ → SchemaAtom → Place
  Cost : ℕ → Place
  Value : ℕ → List ℕ → Place

-- the content of a place: a feature, on or off; a cost expression; a value, which may be absent; or
-- nothing, where no action has the number
pub data Content : Type 0 where
  Feature : Bool → Content
  Price : CostExpr → Content
  Worth : Option ℕ → Content
  Nothing : Content

abbrev pub Meaning : Type 0
Meaning = Place → Content

abbrev pub same_place : Place → Place → Bool
same_place (Init a) (Init b) = same_atom a b
same_place (Goal a) (Goal b) = same_atom a b
same_place (Knows i) (Knows j) = i == j
same_place (Pre i a) (Pre j b) = (i == j) && same_schema_atom a b
same_place (Add i a) (Add j b) = (i == j) && same_schema_atom a b
same_place (Del i a) (Del j b) = (i == j) && same_schema_atom a b
same_place (Cost i) (Cost j) = i == j
same_place (Value f xs) (Value g ys) = (f == g) && same_numbers xs ys
same_place _ _ = false

-- an action's schema has the atom in one of its lists
abbrev pub schema_has : (Schema → List SchemaAtom) → Model → ℕ → SchemaAtom → Bool
schema_has part model action atom =
    option_map_or (λ schema. list_any (same_schema_atom atom) (part schema))
    (slice_get model.schemas action) false

-- the value of a function at objects, if the list has one
abbrev pub value_of : List (ℕ × List ℕ × ℕ) → ℕ → List ℕ → Option ℕ
value_of [] f xs = None
value_of (v ∷ vs) f xs = if (v.0 == f) && same_numbers v.1 xs then Some v.2 else value_of vs f xs

-- the content of each place of a model
abbrev pub meaning : Model → Meaning
meaning model (Init atom) = Feature (list_any (same_atom atom) model.init)
meaning model (Goal atom) = Feature (list_any (same_atom atom) model.goal)
meaning model (Knows action) =
    Feature (nat_lt action (length model.schemas)
    && not (list_any (λ unknown. unknown == action) model.unknown))
meaning model (Pre action atom) = Feature (schema_has (λ s. s.pre) model action atom)
meaning model (Add action atom) = Feature (schema_has (λ s. s.add) model action atom)
meaning model (Del action atom) = Feature (schema_has (λ s. s.del) model action atom)
meaning model (Cost action) =
    option_map_or (λ s. Price s.cost) (slice_get model.schemas action) Nothing
meaning model (Value f xs) = Worth (value_of model.values f xs)

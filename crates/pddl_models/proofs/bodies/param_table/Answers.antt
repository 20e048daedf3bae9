use Rattle.std.proofs.Common.{subst, ℕ, List}
use Rattle.std.proofs.lemmas.Result.{IfOk-weaker}
use Rattle.pddl_names.specs.Numbers.{IsTableOf, entry_name}
use Rattle.pddl_models.specs.WordTables.{ArePlacesOf}
use Rattle.pddl_models.proofs.SayingLemmas.{table_places}
use Rattle.pddl_models.proofs.bodies.param_table.Goals as goal

pub returns : goal.returns
returns c = record {
  ok = IfOk-weaker c.of.result (IsTableOf entry_name c.in_ok-params.params) _
      (λ table is. subst (λ (names : List (List ℕ)). ArePlacesOf names table) c.in_ok-params.ensures.names (table_places entry_name c.in_ok-params.params table is)) c.of.ensures.ok;
}

use Rattle.std.proofs.Common.{◌≡◌, take, sym, ◌∙◌}
use Rattle.std.specs.Prelude.{false, not, slice_get}
use Rattle.mre_base.proofs.Options.{at_some}
use Rattle.pddl_names.specs.declared.role.Word.{Word}
use Rattle.pddl_names.specs.Naming.{is_cycle}
use Rattle.pddl_names.proofs.RuleLemmas.{cycle_none, cycle_back}
use Rattle.pddl_names.proofs.name_tables.Tables.is_cycle.Goals as goal

pub returns-then-comes_back : goal.returns-then-comes_back
returns-then-comes_back c = λ known are.
    let words = c.args.words.now in
    let place = c.args.place in
    let w = c.item-word.result.now in
    at_some (slice_get words place) w (λ (v : Word). not c.is_listed_before.result ≡ is_cycle known (take place words) v) c.item-word.ensures
    (cycle_back known words place w c.item-word.ensures c.in-ListedType.is (sym (c.comes_back.ensures known.types are.names.tree) ∙ c.if-comes_back.true)
    c.is_listed_before.result c.is_listed_before.ensures)

pub returns-else-comes_back : goal.returns-else-comes_back
returns-else-comes_back c = λ known are.
    let words = c.args.words.now in
    let place = c.args.place in
    let w = c.item-word.result.now in
    at_some (slice_get words place) w (λ (v : Word). false ≡ is_cycle known (take place words) v) c.item-word.ensures
    (cycle_none known words place w c.item-word.ensures c.in-ListedType.is (sym (c.comes_back.ensures known.types are.names.tree) ∙ c.if-comes_back.false))

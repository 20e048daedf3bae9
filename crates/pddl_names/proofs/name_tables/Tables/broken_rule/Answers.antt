use Rattle.std.proofs.Common.{◌≡◌, ◌+◌, Some, None, take, drop, sym, ◌∙◌}
use Rattle.std.specs.Prelude.{slice_get}
use Rattle.mre_base.proofs.Listed.{item_at}
use Rattle.mre_base.proofs.Options.{of_some, at_some}
use Rattle.pddl_text.specs.declared.fault.TextRule.TheVariants as rule
use Rattle.pddl_names.specs.declared.role.Word.{Word}
use Rattle.pddl_names.specs.Checks.{first_rule_of}
use Rattle.pddl_names.specs.Naming.{is_twice, is_cycle, is_undeclared, is_wrong_arity, is_wrong_type}
use Rattle.pddl_names.proofs.CheckLemmas.{told_arity, told_none}
use Rattle.pddl_names.proofs.name_tables.Tables.broken_rule.Goals as goal

pub returns-then-is_wrong_arity : goal.returns-then-is_wrong_arity
returns-then-is_wrong_arity c = λ known are.
    let words = c.args.words.now in
    let place = c.args.place in
    let w = item_at words place c.requires.place in
    let before = take place words in
    let rest = drop (place + 1) words in
    let twice = of_some (slice_get words place) w.0 (λ (v : Word). c.is_twice.result ≡ is_twice known before v rest) w.1 (c.is_twice.ensures known are) in
    let cycle = of_some (slice_get words place) w.0 (λ (v : Word). c.is_cycle.result ≡ is_cycle known before v) w.1 (c.is_cycle.ensures known are) in
    let undeclared = of_some (slice_get words place) w.0 (λ (v : Word). c.is_undeclared.result ≡ is_undeclared known before v rest) w.1 (c.is_undeclared.ensures known are) in
    let arity = of_some (slice_get words place) w.0 (λ (v : Word). c.is_wrong_arity.result ≡ is_wrong_arity known v rest) w.1 (c.is_wrong_arity.ensures known are.heads) in
    at_some (slice_get words place) w.0 (λ (v : Word). Some rule.WrongArity ≡ first_rule_of known before v rest) w.1
    (told_arity known before w.0 rest (sym c.if-is_twice.false ∙ twice) (sym c.if-is_cycle.false ∙ cycle) (sym c.if-is_undeclared.false ∙ undeclared) (sym c.if-is_wrong_arity.true ∙ arity))

pub returns-else-is_wrong_type : goal.returns-else-is_wrong_type
returns-else-is_wrong_type c = λ known are.
    let words = c.args.words.now in
    let place = c.args.place in
    let w = item_at words place c.requires.place in
    let before = take place words in
    let rest = drop (place + 1) words in
    let twice = of_some (slice_get words place) w.0 (λ (v : Word). c.is_twice.result ≡ is_twice known before v rest) w.1 (c.is_twice.ensures known are) in
    let cycle = of_some (slice_get words place) w.0 (λ (v : Word). c.is_cycle.result ≡ is_cycle known before v) w.1 (c.is_cycle.ensures known are) in
    let undeclared = of_some (slice_get words place) w.0 (λ (v : Word). c.is_undeclared.result ≡ is_undeclared known before v rest) w.1 (c.is_undeclared.ensures known are) in
    let arity = of_some (slice_get words place) w.0 (λ (v : Word). c.is_wrong_arity.result ≡ is_wrong_arity known v rest) w.1 (c.is_wrong_arity.ensures known are.heads) in
    let type = of_some (slice_get words place) w.0 (λ (v : Word). c.is_wrong_type.result ≡ is_wrong_type known before v rest) w.1 (c.is_wrong_type.ensures known are) in
    at_some (slice_get words place) w.0 (λ (v : Word). None ≡ first_rule_of known before v rest) w.1
    (told_none known before w.0 rest (sym c.if-is_twice.false ∙ twice) (sym c.if-is_cycle.false ∙ cycle) (sym c.if-is_undeclared.false ∙ undeclared) (sym c.if-is_wrong_arity.false ∙ arity)
    (sym c.if-is_wrong_type.false ∙ type))

use Rattle.std.proofs.Common.{ap, ◌∙◌}
use Rattle.std.specs.Prelude.{not}
use Rattle.std.specs.Option.{is_some}
use Rattle.pddl_names.proofs.HeadLemmas.{unknown_is, turned}
use Rattle.pddl_names.proofs.heads.Heads.is_unknown.Goals as goal

pub returns-then-is_head-clause-undeclared : goal.returns-then-is_head-clause-undeclared
returns-then-is_head-clause-undeclared c = λ known before rest heads is.
    turned (is_some c.due_count.result) c.is_none.result c.is_none.ensures ∙ ap (λ o. not (is_some o)) (c.due_count.ensures known heads) ∙ unknown_is known before c.args.word.now rest is

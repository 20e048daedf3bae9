use Rattle.std.proofs.Common.{ℕ, List, ◌||◌, sym, ap, ◌∙◌}
use Rattle.model_kit.specs.Same.{same_numbers}
use Rattle.pddl_models.specs.Unrepeated.{has_key}
use Rattle.pddl_models.proofs.KeptLemmas.{seen_same, is_old}
use Rattle.pddl_models.proofs.unrepeated.push_first.Goals as goal

pub returns-else-branch-clause-seen : goal.returns-else-branch-clause-seen
returns-else-branch-clause-seen g c =
    seen_same g.T.Keyed.key_of c.args.made.now c.args.entry c.args.seen.now c.add.new.self c.requires
    (λ other. c.in_ok-add.ensures.seen other ∙ ap (λ (key : List ℕ). same_numbers key other || has_key c.args.seen.now other) c.in_ok-key.ensures.ok)
    (sym (ap (has_key c.args.seen.now) c.in_ok-key.ensures.ok) ∙ is_old (has_key c.args.seen.now c.in_ok-key.field-0) (sym c.in_ok-add.ensures.new ∙ c.if-branch.false))

use Rattle.std.proofs.Common.{ap, ◌∙◌}
use Rattle.std.specs.Prelude.{is_some}
use Rattle.pddl_names.specs.Firsts.{typed_name}
use Rattle.pddl_names.specs.Numbers.{number_of}
use Rattle.pddl_names.proofs.TreeLemmas.{number_type}
use Rattle.pddl_names.proofs.type_tree.TypeTree.is_type.Goals as goal

pub returns : goal.returns
returns c = λ types are.
    c.is_some.ensures ∙ ap (λ o. is_some o) (c.number.ensures ∙ ap (λ es. number_of typed_name es c.args.name.now) are.names) ∙ number_type types c.args.name.now

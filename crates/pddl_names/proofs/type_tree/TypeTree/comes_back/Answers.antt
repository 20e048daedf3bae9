use Rattle.std.proofs.Common.{sym, ap, ◌∙◌}
use Rattle.pddl_names.specs.Firsts.{typed_name}
use Rattle.pddl_names.specs.Numbers.{number_of}
use Rattle.pddl_names.proofs.TreeLemmas.{back_none}
use Rattle.pddl_names.proofs.type_tree.TypeTree.comes_back.Goals as goal

pub returns-in-None : goal.returns-in-None
returns-in-None c = λ types are.
    sym (back_none types c.args.name.now (ap (λ es. number_of typed_name es c.args.name.now) (sym are.names) ∙ sym c.number.ensures ∙ c.in-None.is))

use Rattle.std.proofs.Common.{◌∙◌, sym}
use Rattle.pddl_names.specs.Numbers.{word_name}
use Rattle.pddl_names.proofs.NumberLemmas.{number_below}
use Rattle.pddl_names.proofs.step.step_of.Goals as goal

pub item-requires : goal.item-requires
item-requires c =
    number_below word_name c.args.words.now.actions c.item-head.result.now.0 c.in-Some.schema (sym (c.requires.actions c.item-head.result.now.0) ∙ sym c.in-Some.ensures)

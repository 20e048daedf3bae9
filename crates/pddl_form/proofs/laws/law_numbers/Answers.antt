use Rattle.pddl_form.proofs.NumberLemmas.{number_spells, spells_number}
use Rattle.pddl_form.proofs.laws.law_numbers.Goals as goal

pub returns : goal.returns
returns c text n = (number_spells text n, spells_number text n)

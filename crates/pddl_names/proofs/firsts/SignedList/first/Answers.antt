use Rattle.std.proofs.Common.{sym, ◌∙◌}
use Rattle.pddl_names.specs.Firsts.{signed_name}
use Rattle.pddl_names.proofs.FirstsLemmas.{first_none, first_some}
use Rattle.pddl_names.proofs.NumberLemmas.{number_below}
use Rattle.pddl_names.proofs.firsts.SignedList.first.Goals as goal

pub item-requires : goal.item-requires
item-requires c = number_below signed_name c.args.self.now.entries c.args.name.now c.in-Some.number (sym (c.args.self.now.sound c.args.name.now) ∙ sym c.in-Some.ensures)

pub returns-in-Some : goal.returns-in-Some
returns-in-Some c =
    sym (first_some c.args.self.now.entries c.args.name.now c.in-Some.number c.item.result.now (sym (c.args.self.now.sound c.args.name.now) ∙ sym c.in-Some.ensures) c.item.ensures)

pub returns-in-None : goal.returns-in-None
returns-in-None c = sym (first_none c.args.self.now.entries c.args.name.now (sym (c.args.self.now.sound c.args.name.now) ∙ sym c.in-None.ensures))

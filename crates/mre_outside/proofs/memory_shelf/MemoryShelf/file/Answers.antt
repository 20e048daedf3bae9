use Rattle.std.proofs.Common.{sym, ap, ◌∙◌}
use Rattle.std.specs.FinMap.{get}
use Rattle.mre_outside.specs.Kept.{kept_entries}
use Rattle.mre_outside.proofs.Lookups.{get_put, get_given}
use Rattle.mre_outside.proofs.memory_shelf.MemoryShelf.file.Goals as goal

pub returns-in-Some : goal.returns-in-Some
returns-in-Some c =
    let fields = c.self.inside in
    get_put (kept_entries fields.puts.items) fields.given c.args.name.now _ c.in-Some.ensures
    ∙ ap (λ shelf. get shelf.held c.args.name.now) c.self.view_is

pub returns-in-None : goal.returns-in-None
returns-in-None c =
    let fields = c.self.inside in
    c.given_under.ensures
    ∙ sym (get_given (kept_entries fields.puts.items) fields.given c.args.name.now c.in-None.ensures)
    ∙ ap (λ shelf. get shelf.held c.args.name.now) c.self.view_is

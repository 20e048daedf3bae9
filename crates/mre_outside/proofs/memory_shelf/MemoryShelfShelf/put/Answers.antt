use Rattle.std.proofs.Common.{ap, ◌∙◌}
use Rattle.std.specs.FinMap.{get}
use Rattle.mre_outside.proofs.Names.{get-insert_other}
use Rattle.mre_outside.proofs.memory_shelf.MemoryShelfShelf.put.Goals as goal

pub returns-then-next_call_fails-clause-others : goal.returns-then-next_call_fails-clause-others
returns-then-next_call_fails-clause-others c = λ other differs.
    ap (λ shelf. get shelf.held other) c.in_ok-keep.ensures.ok
    ∙ get-insert_other c.args.self.now.held c.args.name.now _ other differs

pub returns-clause-others : goal.returns-clause-others
returns-clause-others c = λ other differs.
    ap (λ shelf. get shelf.held other) c.in_ok-keep-2.ensures.ok
    ∙ get-insert_other c.args.self.now.held c.args.name.now _ other differs

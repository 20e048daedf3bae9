use Rattle.std.proofs.Common.{◌≡◌, take}
use Rattle.request_answers.specs.Tables.{forms_of}
use Rattle.request_answers.proofs.grounding.print_list.Given as goal

abbrev pub invariant-loop-place : goal.invariant-loop-place
invariant-loop-place l = l.texts ≡ forms_of l.names.actions.items (take l.place l.list)

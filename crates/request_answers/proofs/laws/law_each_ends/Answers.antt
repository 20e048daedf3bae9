use Rattle.request_answers.proofs.SomeEnd.{answered_or_stopped, some_end}
use Rattle.request_answers.proofs.laws.law_each_ends.Goals as goal

pub returns : goal.returns
returns c = record { caused = answered_or_stopped; some = some_end }

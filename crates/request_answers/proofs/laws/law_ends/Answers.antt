use Rattle.request_answers.proofs.Ending.{due_ends, answer_ends}
use Rattle.request_answers.proofs.OneEnd.{ends_once}
use Rattle.request_answers.proofs.laws.law_ends.Goals as goal

pub returns : goal.returns
returns c = record { once = ends_once; stopped = due_ends; answered = answer_ends }

use Rattle.search_log.proofs.DueLemmas.{of_search_on, due_below}
use Rattle.search_log.specs.Due.{IsLogged}
use Rattle.search_log.proofs.laws.law_due.Goals as goal

pub returns : goal.returns
returns c =
    record {
      goes_on = λ task. of_search_on task;
      atoms = λ task cube k log bits sound due. due_below task k (IsLogged task cube log) bits.members sound due.due;
    }

use Rattle.mre_words.proofs.Requested.{Ask-from_requested, requested-from_Ask, names_of-requested, length-files_of-requested}
use Rattle.mre_words.proofs.laws.law_requested.Goals as goal

pub returns-clause-asked : goal.returns-clause-asked
returns-clause-asked c = λ words request. (Ask-from_requested words request, requested-from_Ask words request)

pub returns-clause-named : goal.returns-clause-named
returns-clause-named c = names_of-requested

pub returns-clause-counted : goal.returns-clause-counted
returns-clause-counted c = length-files_of-requested

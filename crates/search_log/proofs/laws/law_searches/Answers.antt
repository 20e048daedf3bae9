use Rattle.search_log.proofs.LogLemmas.{searches_none, searches_one, searches_two}
use Rattle.search_log.proofs.laws.law_searches.Goals as goal

pub returns : goal.returns
returns c = record { none = searches_none; one = searches_one; two = searches_two }

use Rattle.pddl_read.proofs.DomainTexts.{either_domain, one_domain, one_fault, not_both}
use Rattle.pddl_read.proofs.laws.law_domains.Goals as goal

pub returns : goal.returns
returns c = record { either = either_domain; never_both = not_both; one_domain = one_domain; one_fault = one_fault }

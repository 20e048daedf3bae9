use Rattle.case_kit.proofs.TableLemmas.{member_law}
use Rattle.case_kit.proofs.laws.law_members.Goals as goal

pub returns : goal.returns
returns c = member_law

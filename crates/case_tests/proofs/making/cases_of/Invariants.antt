use Rattle.std.proofs.Common.{All}
use Rattle.case_tests.specs.Sided.{IsSided}
use Rattle.case_tests.proofs.making.cases_of.Given as goal

abbrev pub invariant-loop-case : goal.invariant-loop-case
invariant-loop-case l = All (IsSided l.size.split l.size.d l.bound) l.list

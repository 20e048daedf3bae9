use Rattle.std.proofs.Common.{arith}
use Rattle.case_tests.proofs.SidedLemmas.{sided_sound}
use Rattle.case_tests.proofs.making.table_of.Goals as goal

pub invariant_of-result : goal.invariant_of-result
invariant_of-result c =
    record {
      sound = sided_sound c.args.size.split c.args.size.d c.requires.split c.args.size.atoms c.in_ok-cases_of.field-0 c.in_ok-cases_of-2.field-0 c.in_ok-actions_of.field-0 c.in_ok-cases_of.ensures c.in_ok-cases_of-2.ensures
          c.in_ok-actions_of.ensures.each c.requires.differences c.requires.atoms (omega (arith, c.requires.list, c.in_ok-actions_of.ensures.count));
    }

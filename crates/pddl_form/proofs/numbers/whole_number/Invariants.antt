use Rattle.std.proofs.Common.{◌≡◌, drop}
use Rattle.pddl_form.specs.Numbers.{with_digits}
use Rattle.pddl_form.proofs.numbers.whole_number.Given as goal

abbrev pub invariant-loop-byte : goal.invariant-loop-byte
invariant-loop-byte l = with_digits 0 l.digits ≡ with_digits l.number (drop l.byte-index l.digits)

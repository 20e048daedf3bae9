use Rattle.std.proofs.Common.{◌≡◌, ◌++◌, List, drop}
use Rattle.pddl_text.specs.Forests.{tokens_of_all}
use Rattle.pddl_text.specs.Tokens.{Token}
use Rattle.pddl_form.specs.Readings.{runs}
use Rattle.pddl_form.proofs.reading.Reading.+tree.Given as goal

abbrev pub invariant-trees-loop-place : goal.invariant-trees-loop-place
invariant-trees-loop-place l = (tokens : List Token) → runs l.fn.self (tokens_of_all l.list ++ tokens) ≡ runs l.self (tokens_of_all (drop l.place l.list) ++ tokens)

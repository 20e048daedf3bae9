use Rattle.std.proofs.Common.{◌≡◌, ◌&&◌, false}
use Rattle.std.specs.List.{list_any, between}
use Rattle.std.specs.Str.{bytes_eq}
use Rattle.pddl_names.specs.declared.role.Word.{Word}
use Rattle.pddl_names.specs.Tables.{is_increase_role}
use Rattle.pddl_names.proofs.rules.is_increased.Given as goal

abbrev pub invariant-loop-earlier : goal.invariant-loop-earlier
invariant-loop-earlier l = list_any (λ (v : Word). is_increase_role v.role && bytes_eq v.text l.text) (between l.fn.start l.earlier l.words) ≡ false

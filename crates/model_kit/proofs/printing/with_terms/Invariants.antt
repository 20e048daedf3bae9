use Rattle.std.proofs.Common.{◌≡◌, ◌++◌, take, map}
use Rattle.std.specs.Prelude.{codes}
use Rattle.std.specs.String.{string_bytes}
use Rattle.model_kit.specs.Printed.{name_of, term_form, args_form}
use Rattle.model_kit.proofs.printing.with_terms.Given as goal

abbrev pub invariant-loop-place : goal.invariant-loop-place
invariant-loop-place l =
    string_bytes l.text ≡ (codes "(" ++ name_of l.signatures l.number) ++ args_form (map (term_form l.words) (take l.place l.terms))

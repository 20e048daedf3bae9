use Rattle.std.proofs.Common.{◌≡◌, ◌++◌, take, map}
use Rattle.std.specs.Prelude.{codes}
use Rattle.std.specs.String.{string_bytes}
use Rattle.model_kit.specs.Printed.{name_of, object_name, args_form}
use Rattle.model_kit.proofs.printing.with_objects.Given as goal

abbrev pub invariant-loop-object : goal.invariant-loop-object
invariant-loop-object l =
    string_bytes l.text ≡ (codes "(" ++ name_of l.signatures l.number) ++ args_form (map (object_name l.words) (take l.object-index l.object-items))

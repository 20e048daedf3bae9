use Rattle.std.proofs.Common.{◌++◌}
use Rattle.std.specs.Prelude.{codes}
use Rattle.model_kit.specs.Vocabulary.{is_object_of}
use Rattle.model_kit.specs.Printed.{name_of, object_name}
use Rattle.model_kit.proofs.Fits.{signature_listed, argument_listed}
use Rattle.model_kit.proofs.Forms.{args_form_more}
use Rattle.model_kit.proofs.printing.with_objects.Goals as goal

pub opened-requires : goal.opened-requires
opened-requires c = signature_listed (is_object_of c.args.words.now) c.args.signatures.now c.args.number c.args.objects.now c.requires

pub push_object-requires : goal.push_object-requires
push_object-requires c = argument_listed c.args.words.now c.args.signatures.now c.args.number c.args.objects.now _ c.requires c.as_slice-object-items.ensures _ c.loop-object-test.true

pub loop-object-preserved : goal.loop-object-preserved
loop-object-preserved c =
    args_form_more (object_name c.args.words.now) (codes "(" ++ name_of c.args.signatures.now c.args.number) _ _ c.as_slice-object-items.result.now _ 0
    c.loop-object-test.true c.loop-object.invariant c.in_ok-push_object.ensures.ok

use Rattle.std.proofs.Common.{◌++◌}
use Rattle.std.specs.Prelude.{codes}
use Rattle.model_kit.specs.Vocabulary.{is_term_of}
use Rattle.model_kit.specs.Printed.{name_of, term_form}
use Rattle.model_kit.proofs.Fits.{signature_listed, term_object_listed}
use Rattle.model_kit.proofs.Forms.{args_form_item}
use Rattle.model_kit.proofs.printing.with_terms.Goals as goal

pub opened-requires : goal.opened-requires
opened-requires c = signature_listed (is_term_of c.args.words.now c.requires.0) c.args.signatures.now c.args.number c.args.terms.now c.requires.1

pub push_term-requires : goal.push_term-requires
push_term-requires c = term_object_listed c.args.words.now c.requires.0 c.args.signatures.now c.args.number c.args.terms.now c.requires.1 _ _ c.item.ensures

pub loop-place-preserved : goal.loop-place-preserved
loop-place-preserved c =
    args_form_item (term_form c.args.words.now) (codes "(" ++ name_of c.args.signatures.now c.args.number) _ _ c.args.terms.now _ _
    c.item.ensures c.loop-place.invariant c.in_ok-push_term.ensures.ok

use Rattle.std.proofs.Common.{refl}
use Rattle.std.specs.Fmt.{digits}
use Rattle.model_examples.proofs.texts.printed_forms.Goals as goal

pub returns-clause-plain : goal.returns-clause-plain
unfolding digits
returns-clause-plain c = refl

pub returns-clause-object : goal.returns-clause-object
unfolding digits
returns-clause-object c = refl

pub returns-clause-param : goal.returns-clause-param
unfolding digits
returns-clause-param c = refl

pub returns-clause-action : goal.returns-clause-action
unfolding digits
returns-clause-action c = refl

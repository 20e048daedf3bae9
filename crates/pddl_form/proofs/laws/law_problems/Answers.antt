use Rattle.pddl_form.specs.declared.parts.Part.TheVariants as part
use Rattle.pddl_form.proofs.Derivations.{text_meets, meets_text}
use Rattle.pddl_form.proofs.Steps.{denotes}
use Rattle.pddl_form.proofs.Derived.{problem_meets}
use Rattle.pddl_form.proofs.laws.law_problems.Goals as goal

pub returns : goal.returns
returns c tokens = (λ text. denotes (text_meets part.Problem tokens text), λ is. meets_text part.Problem tokens (problem_meets is))

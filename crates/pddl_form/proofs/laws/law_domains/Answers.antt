use Rattle.pddl_form.specs.declared.parts.Part.TheVariants as part
use Rattle.pddl_form.proofs.Derivations.{text_meets, meets_text}
use Rattle.pddl_form.proofs.Steps.{denotes}
use Rattle.pddl_form.proofs.Derived.{domain_meets}
use Rattle.pddl_form.proofs.laws.law_domains.Goals as goal

pub returns : goal.returns
returns c tokens = (λ text. denotes (text_meets part.Domain tokens text), λ is. meets_text part.Domain tokens (domain_meets is))

use Rattle.std.proofs.Common.{List, sym, subst}
use Rattle.pddl_form.specs.declared.parts.Part.TheVariants as part
use Rattle.pddl_form.specs.First.{LeavesForm}
use Rattle.pddl_text.specs.Forests.{tokens_of_all}
use Rattle.pddl_names.specs.Listings.{nothing}
use Rattle.pddl_names.specs.Naming.{IsMisnamed}
use Rattle.pddl_names.specs.Texts.{form, names}
use Rattle.pddl_vocabulary.specs.Formed.{AreFormed}
use Rattle.pddl_vocabulary.proofs.FormedLemmas.{are_formed}
use Rattle.pddl_models.specs.Saying.{AreNoTotals}
use Rattle.pddl_models.proofs.RoleLemmas.{are_no_totals}
use Rattle.pddl_names.specs.declared.role.Word.{Word}
use Rattle.pddl_form.specs.declared.parts.Met.{Met}
use Rattle.pddl_read.specs.Texts.{IsDomainFault}
use Rattle.pddl_read.proofs.Stopped.{stopped}
use Rattle.pddl_read.proofs.reading.domain_words.Goals as goal

pub returns-in-Err-formed-clause-unsaid : goal.returns-in-Err-formed-clause-unsaid
returns-in-Err-formed-clause-unsaid c =
    stopped (List Met) (List Word) c.in-Err-formed.stop (LeavesForm part.Domain c.in-Ok.forest) (IsDomainFault c.args.bytes.now) (λ fault leaves. form c.in-Ok.forest c.in-Ok.ensures.ok leaves) c.in-Err-formed.ensures.fault

pub returns-in-Ok-check_domain_names-clause-formed : goal.returns-in-Ok-check_domain_names-clause-formed
returns-in-Ok-check_domain_names-clause-formed c =
    subst AreFormed (sym c.in_ok-said.ensures.ok)
    (are_formed part.Domain c.args.bytes.now c.in-Ok.forest c.in-Ok-formed.met c.in-Ok.ensures.ok c.in-Ok-formed.ensures.ok)

pub returns-in-Ok-check_domain_names-clause-calls : goal.returns-in-Ok-check_domain_names-clause-calls
returns-in-Ok-check_domain_names-clause-calls c =
    subst AreNoTotals (sym c.in_ok-said.ensures.ok)
    (are_no_totals part.Domain (tokens_of_all c.in-Ok.forest.trees) c.in-Ok-formed.met c.in-Ok-formed.ensures.ok)

pub returns-clause-unsaid : goal.returns-clause-unsaid
returns-clause-unsaid c =
    stopped (Unit {0}) (List Word) c.in-Err-check_domain_names.stop (IsMisnamed nothing c.in_ok-said.said) (IsDomainFault c.args.bytes.now)
    (λ fault fails. names c.in-Ok.forest c.in-Ok-formed.met c.in-Ok.ensures.ok c.in-Ok-formed.ensures.ok (subst (λ said. IsMisnamed nothing said fault) c.in_ok-said.ensures.ok fails))
    c.in-Err-check_domain_names.ensures.fault

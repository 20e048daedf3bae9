use Rattle.std.proofs.Common.{ℕ, List, Err, arith}
use Rattle.pddl_models.specs.declared.domain.Domain.{Domain}
use Rattle.pddl_names.specs.declared.role.Word.{Word}
use Rattle.pddl_read.specs.Texts.{IsDomainText, IsDomainFault}
use Rattle.pddl_read.proofs.DomainTexts.{one_domain, not_both, answered, refused}
use Rattle.pddl_read.proofs.Few.{words_few}
use Rattle.pddl_read.proofs.Stopped.{stopped}
use Rattle.pddl_read.proofs.reading.read_domain.Goals as goal

pub returns-in_ok-domain_said-in-Ok-clause-succeeds : goal.returns-in_ok-domain_said-in-Ok-clause-succeeds
returns-in_ok-domain_said-in-Ok-clause-succeeds c domain is =
    let text : IsDomainText c.args.bytes.now c.in_ok-domain_said-in-Ok.field-0 = record { said = c.in-Ok.said; text = c.in-Ok.ensures.said; says = c.in_ok-domain_said-in-Ok.ensures.ok } in
    one_domain c.args.bytes.now c.in_ok-domain_said-in-Ok.field-0 domain text is

pub returns-in_ok-domain_said-in-Ok-clause-refuses : goal.returns-in_ok-domain_said-in-Ok-clause-refuses
returns-in_ok-domain_said-in-Ok-clause-refuses c fault is =
    let text : IsDomainText c.args.bytes.now c.in_ok-domain_said-in-Ok.field-0 = record { said = c.in-Ok.said; text = c.in-Ok.ensures.said; says = c.in_ok-domain_said-in-Ok.ensures.ok } in
    not_both c.args.bytes.now c.in_ok-domain_said-in-Ok.field-0 fault text is

pub returns-in_ok-domain_said-in-Ok-clause-few : goal.returns-in_ok-domain_said-in-Ok-clause-few
returns-in_ok-domain_said-in-Ok-clause-few c =
    words_few c.in-Ok.said c.in_ok-domain_said-in-Ok.field-0.words 536870912 c.in_ok-domain_said-in-Ok.ensures.ok.words (omega (arith, c.in-Ok.ensures.few))

pub returns-in-Err-clause-succeeds : goal.returns-in-Err-clause-succeeds
returns-in-Err-clause-succeeds c =
    answered c.args.bytes.now (Err c.in-Err.stop) tt (stopped (List Word) Domain c.in-Err.stop (IsDomainFault c.args.bytes.now) (IsDomainFault c.args.bytes.now) (λ fault is. is) c.in-Err.ensures.unsaid)

pub returns-in-Err-clause-refuses : goal.returns-in-Err-clause-refuses
returns-in-Err-clause-refuses c =
    refused c.args.bytes.now (Err c.in-Err.stop) tt (stopped (List Word) Domain c.in-Err.stop (IsDomainFault c.args.bytes.now) (IsDomainFault c.args.bytes.now) (λ fault is. is) c.in-Err.ensures.unsaid)

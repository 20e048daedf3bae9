use Rattle.std.proofs.Common.{ℕ, List, Err, arith}
use Rattle.pddl_names.specs.declared.role.Word.{Word}
use Rattle.model_kit.specs.declared.model.Model.{Model}
use Rattle.pddl_read.specs.Texts.{IsProblemText, IsProblemFault}
use Rattle.pddl_read.proofs.ProblemTexts.{one_model, not_both, answered, refused}
use Rattle.pddl_read.proofs.Few.{more_few}
use Rattle.pddl_read.proofs.Stopped.{stopped}
use Rattle.pddl_read.proofs.reading.read_problem.Goals as goal

pub returns-in_ok-model_said-in-Ok-clause-succeeds : goal.returns-in_ok-model_said-in-Ok-clause-succeeds
returns-in_ok-model_said-in-Ok-clause-succeeds c model is =
    let domain = c.args.domain.now in
    let text : IsProblemText domain c.args.bytes.now c.in_ok-model_said-in-Ok.field-0 = record { said = c.in-Ok.said; text = c.in-Ok.ensures.said; says = c.in_ok-model_said-in-Ok.ensures.ok } in
    one_model domain c.args.bytes.now c.in_ok-model_said-in-Ok.field-0 model text is

pub returns-in_ok-model_said-in-Ok-clause-refuses : goal.returns-in_ok-model_said-in-Ok-clause-refuses
returns-in_ok-model_said-in-Ok-clause-refuses c fault is =
    let domain = c.args.domain.now in
    let text : IsProblemText domain c.args.bytes.now c.in_ok-model_said-in-Ok.field-0 = record { said = c.in-Ok.said; text = c.in-Ok.ensures.said; says = c.in_ok-model_said-in-Ok.ensures.ok } in
    not_both domain c.args.bytes.now c.in_ok-model_said-in-Ok.field-0 fault text is

pub returns-in_ok-model_said-in-Ok-clause-few : goal.returns-in_ok-model_said-in-Ok-clause-few
returns-in_ok-model_said-in-Ok-clause-few c =
    more_few c.args.domain.now.words c.in-Ok.said c.in_ok-model_said-in-Ok.field-0.words 536870912 536870912 c.in_ok-model_said-in-Ok.ensures.ok.words c.requires.domain (omega (arith, c.in-Ok.ensures.few))

pub returns-in-Err-clause-succeeds : goal.returns-in-Err-clause-succeeds
returns-in-Err-clause-succeeds c =
    let domain = c.args.domain.now in
    answered domain c.args.bytes.now (Err c.in-Err.stop) tt (stopped (List Word) Model c.in-Err.stop (IsProblemFault domain c.args.bytes.now) (IsProblemFault domain c.args.bytes.now) (λ fault is. is) c.in-Err.ensures.unsaid)

pub returns-in-Err-clause-refuses : goal.returns-in-Err-clause-refuses
returns-in-Err-clause-refuses c =
    let domain = c.args.domain.now in
    refused domain c.args.bytes.now (Err c.in-Err.stop) tt (stopped (List Word) Model c.in-Err.stop (IsProblemFault domain c.args.bytes.now) (IsProblemFault domain c.args.bytes.now) (λ fault is. is) c.in-Err.ensures.unsaid)

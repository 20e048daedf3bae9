use Rattle.std.proofs.Common.{sym, ◌∙◌, arith, subst}
use Rattle.std.proofs.lemmas.Bool.{true≢false}
use Rattle.task_kit.specs.Bounds.{IsKnownWithin}
use Rattle.bound_cert.specs.Proven.{IsThere}
use Rattle.bound_cert.proofs.LookLemmas.{known_zero}
use Rattle.bound_cert.proofs.checking.has_start.Goals as goal

pub returns-clause-yes : goal.returns-clause-yes
returns-clause-yes g c e above =
    known_zero c.args.states.now (g.T.TaskView.seen c.args.task.now).start
    (subst (λ b. IsKnownWithin (IsThere c.args.states.now) b.members 0) c.start.ensures (c.is_within.ensures.0 e))

pub returns-clause-no : goal.returns-clause-no
returns-clause-no g c e = (
  omega arith,
  λ there.
      true≢false (sym (c.is_within.ensures.1 (subst (λ b. IsKnownWithin (IsThere c.args.states.now) b.members 0) (sym c.start.ensures) (0, there, omega arith))) ∙ e),
)

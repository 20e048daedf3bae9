use Rattle.std.proofs.Common.{◌+◌, sym, ap, ◌∙◌, arith, subst, inr}
use Rattle.std.proofs.lemmas.Bool.{true≢false}
use Rattle.task_kit.specs.Bounds.{IsKnownWithin}
use Rattle.task_kit.specs.Tasks.{price}
use Rattle.bound_cert.specs.Proven.{IsThere}
use Rattle.bound_cert.proofs.expanding.has_successor.Goals as goal

pub returns-clause-yes : goal.returns-clause-yes
returns-clause-yes g c e does =
    let known = IsThere c.args.states.now in
    let number = c.args.from.now.number in
    inr (subst (λ state. IsKnownWithin known state (number + price (g.T.TaskView.seen c.args.task.now) c.args.action)) (ap (λ b. b.members) c.next_into.ensures)
    (subst (λ p. IsKnownWithin known c.next_into.new.into.members (number + p)) c.price_of-price.ensures.price (c.is_within.ensures.0 e)))

pub returns-clause-no : goal.returns-clause-no
returns-clause-no g c e =
    let known = IsThere c.args.states.now in
    let number = c.args.from.now.number in
    let task = g.T.TaskView.seen c.args.task.now in
    record {
      does = sym c.applies.ensures ∙ c.if-not-applies.false;
      cheap = omega (arith, c.price_of-price.ensures.price, c.if-k-from.false, c.requires.below);
      unknown = λ within.
          true≢false (sym (c.is_within.ensures.1
          (subst (λ p. IsKnownWithin known c.next_into.new.into.members (number + p)) (sym c.price_of-price.ensures.price)
          (subst (λ state. IsKnownWithin known state (number + price task c.args.action)) (sym (ap (λ b. b.members) c.next_into.ensures)) within))) ∙ e);
    }

use Rattle.std.proofs.Common.{length, All, IfSome, sym, ap, ◌∙◌, subst, arith}
use Rattle.std.proofs.lemmas.List.Elements.{All-push}
use Rattle.std.proofs.lemmas.List.{length_push}
use Rattle.case_tests.specs.Sided.{IsSidedAction}
use Rattle.case_tests.proofs.making.actions_of.Goals.{in-Some+in_ok-push, in_default}
use Rattle.case_tests.proofs.making.actions_of.Goals as goal

pub loop-given-preserved : goal.loop-given-preserved
loop-given-preserved c =
    elim c.match-branch-2.branch [
      | in-Some+in_ok-push w ↦
          let new = w.actions-is ∙ w.in_ok-push.ensures.ok in
          record {
            each = subst (All (IsSidedAction c.args.size.split c.args.size.d c.args.size.atoms)) (sym new)
                (All-push (IsSidedAction c.args.size.split c.args.size.d c.args.size.atoms) c.loop-given.actions w.in-Some.action c.loop-given.invariant.each (subst (λ o. IfSome o (IsSidedAction c.args.size.split c.args.size.d c.args.size.atoms)) w.in-Some.is c.in_ok-action.ensures));
            count = omega (arith, ap length new, length_push c.loop-given.actions w.in-Some.action, c.loop-given.invariant.count);
          }
      | in_default w ↦
          record {
            each = subst (All (IsSidedAction c.args.size.split c.args.size.d c.args.size.atoms)) (sym w.actions-is) c.loop-given.invariant.each;
            count = omega (arith, ap length w.actions-is, c.loop-given.invariant.count);
          }
    ]

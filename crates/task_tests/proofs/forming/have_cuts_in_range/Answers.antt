use Rattle.std.proofs.Common.{All, subst, arith}
use Rattle.std.proofs.lemmas.List.{take_all}
use Rattle.bound_cert.specs.Formed.{IsInRange, cuts_of}
use Rattle.mre_base.proofs.Listed.{all_take_item}
use Rattle.task_tests.proofs.forming.have_cuts_in_range.Goals as goal

pub loop-place-preserved : goal.loop-place-preserved
loop-place-preserved c =
    all_take_item (λ s. All (IsInRange c.args.atoms) (cuts_of s.how)) c.args.states.now c.loop-place.place c.item.result.now c.item.ensures c.loop-place.invariant
    (c.has_cuts_in_range.ensures c.if-not-has_cuts_in_range.false)

pub returns : goal.returns
returns c _ =
    subst (All (λ s. All (IsInRange c.args.atoms) (cuts_of s.how))) (take_all c.loop-place.place c.args.states.now (omega (arith, c.loop-place-test.false, c.len-place-end.ensures))) c.loop-place.invariant

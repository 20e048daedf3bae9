use Rattle.std.proofs.Common.{◌≡◌, ◌+◌, sym, ◌∙◌, subst, arith}
use Rattle.plain_program.specs.Subsets.{sets_from, of_sizes, ListsAll}
use Rattle.plain_program.proofs.SetLists.{lists_all, sorted_all}
use Rattle.plain_program.proofs.ordering.sets_in_order.Goals as goal

pub returns : goal.returns
returns c =
    let bound = c.args.bound in
    let size_is : c.loop-size.size ≡ bound + 1 = omega (arith, c.loop-size.auto.size-end, c.loop-size-test.false) in
    let sets_are : c.loop-size.sets ≡ of_sizes (sets_from bound bound) (bound + 1) = c.loop-size.invariant ∙ (λ i. of_sizes (c.in_ok-all.ensures i) (size_is i)) in
    subst (ListsAll bound) (sym sets_are) (sorted_all bound (omega (arith, c.requires)) (sets_from bound bound) (lists_all bound))

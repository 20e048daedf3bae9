use Rattle.std.proofs.Common.{sym, ap, ◌∙◌, subst}
use Rattle.cube_kit.specs.Cubes.{IsApart, IsCube, is_member}
use Rattle.cube_kit.proofs.ApartLemmas.{same_cube, cube_apart, difference-empty}
use Rattle.cube_kit.proofs.CubeLemmas.{root_cube, root_has}
use Rattle.cube_kit.proofs.cube.Cube.root.Goals as goal

pub invariant_of-result : goal.invariant_of-result
invariant_of-result c =
    subst IsApart (sym (same_cube _ _ _ _ _ _ c.none.ensures c.none-2.ensures (difference-empty c.args.d _ _ c.none-3.ensures c.others.ensures))) (cube_apart c.args.d _ c.requires (root_cube c.args.d))

pub returns-clause-is : goal.returns-clause-is
returns-clause-is c = same_cube _ _ _ _ _ _ c.none.ensures c.none-2.ensures (difference-empty c.args.d _ _ c.none-3.ensures c.others.ensures)

pub returns-clause-cube : goal.returns-clause-cube
returns-clause-cube c =
    subst (IsCube c.args.d) (sym (same_cube _ _ _ _ _ _ c.none.ensures c.none-2.ensures (difference-empty c.args.d _ _ c.none-3.ensures c.others.ensures))) (root_cube c.args.d)

pub returns-clause-members : goal.returns-clause-members
returns-clause-members c s =
    ap (λ v. is_member v s) (same_cube _ _ _ _ _ _ c.none.ensures c.none-2.ensures (difference-empty c.args.d _ _ c.none-3.ensures c.others.ensures)) ∙ root_has c.args.d s

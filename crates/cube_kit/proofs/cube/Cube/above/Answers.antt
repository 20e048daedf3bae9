use Rattle.std.proofs.Common.{sym, ap, ◌∙◌, subst}
use Rattle.cube_kit.specs.Cubes.{IsApart, IsCube, is_member}
use Rattle.cube_kit.proofs.ApartLemmas.{same_cube, cube_apart}
use Rattle.cube_kit.proofs.CubeLemmas.{above_cube, above_has}
use Rattle.cube_kit.proofs.cube.Cube.above.Goals as goal

pub invariant_of-result : goal.invariant_of-result
invariant_of-result c =
    subst IsApart (sym (same_cube _ _ _ _ _ _ c.copy.ensures c.none.ensures c.others.ensures)) (cube_apart c.args.d _ c.requires.few (above_cube c.args.d c.args.set.now c.requires.within))

pub returns-clause-cube : goal.returns-clause-cube
returns-clause-cube c =
    subst (IsCube c.args.d) (sym (same_cube _ _ _ _ _ _ c.copy.ensures c.none.ensures c.others.ensures)) (above_cube c.args.d c.args.set.now c.requires.within)

pub returns-clause-members : goal.returns-clause-members
returns-clause-members c s = ap (λ v. is_member v s) (same_cube _ _ _ _ _ _ c.copy.ensures c.none.ensures c.others.ensures) ∙ above_has c.args.d c.args.set.now s

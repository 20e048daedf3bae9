use Rattle.std.proofs.Common.{sym, ap, ◌∙◌, subst}
use Rattle.cube_kit.specs.Cubes.{IsApart, IsCube, is_member, single}
use Rattle.cube_kit.proofs.ApartLemmas.{same_cube, cube_apart}
use Rattle.cube_kit.proofs.CubeLemmas.{single_has, single_cube, told_is_member}
use Rattle.cube_kit.proofs.cube.Cube.single.Goals as goal

pub invariant_of-result : goal.invariant_of-result
invariant_of-result c =
    subst IsApart (sym (same_cube _ _ _ _ _ _ c.copy.ensures c.others.ensures c.none.ensures)) (cube_apart c.args.d _ c.requires.few (single_cube c.args.d c.args.set.now c.requires.within))

pub returns-clause-cube : goal.returns-clause-cube
returns-clause-cube c =
    subst (IsCube c.args.d) (sym (same_cube _ _ _ _ _ _ c.copy.ensures c.others.ensures c.none.ensures)) (single_cube c.args.d c.args.set.now c.requires.within)

pub returns-clause-member : goal.returns-clause-member
returns-clause-member c s within =
    let is = same_cube _ _ _ _ _ _ c.copy.ensures c.others.ensures c.none.ensures in (
      λ h. single_has c.args.d c.args.set.now s within (sym (ap (λ v. is_member v s) is) ∙ h),
      λ e. ap (λ v. is_member v s) is ∙ ap (is_member (single c.args.d c.args.set.now)) (sym e) ∙ told_is_member c.args.d _ (single_cube c.args.d c.args.set.now c.requires.within),
    )

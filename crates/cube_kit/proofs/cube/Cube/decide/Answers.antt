use Rattle.std.proofs.Common.{◌&&◌, sym, ap, ◌∙◌, subst}
use Rattle.std.specs.FinSet as set
use Rattle.cube_kit.specs.Cubes.{IsApart, IsCube, is_member, told_child, left_child}
use Rattle.cube_kit.specs.Child.{is_on}
use Rattle.cube_kit.proofs.ApartLemmas.{same_cube, told_apart, left_apart}
use Rattle.cube_kit.proofs.CubeLemmas.{told_has, left_has, told_cube, left_cube}
use Rattle.cube_kit.proofs.cube.Cube.decide.Goals.{After-copy, After-with-in-Left}
use Rattle.cube_kit.proofs.cube.Cube.decide.Goals as goal

pub invariant_of-t-6 : goal.invariant_of-t-6
invariant_of-t-6 c =
    let there = ap (λ v. set.contains v.undecided c.args.place) c.self.view_is ∙ c.requires in
    subst IsApart (sym (same_cube _ _ _ _ _ _ c.with.ensures c.copy.ensures c.without-undecided.ensures)) (told_apart _ c.args.place there c.self.invariant)

pub invariant_of-result : goal.invariant_of-result
invariant_of-result c =
    let there = ap (λ v. set.contains v.undecided c.args.place) c.self.view_is ∙ c.requires in
    subst IsApart (sym (same_cube _ _ _ _ _ _ c.copy-in-Left.ensures c.with-in-Left.ensures c.without-undecided.ensures)) (left_apart _ c.args.place there c.self.invariant)

pub returns-in-Told-clause-cube : goal.returns-in-Told-clause-cube
returns-in-Told-clause-cube c d cube =
    let is = same_cube _ _ _ _ _ _ c.with.ensures c.copy.ensures c.without-undecided.ensures ∙ ap (λ v. told_child v c.args.place) c.self.view_is in
    subst (IsCube d) (sym is) (told_cube d c.args.self.now c.args.place c.requires cube)

pub returns-in-Told-clause-members : goal.returns-in-Told-clause-members
returns-in-Told-clause-members c s =
    let is = same_cube _ _ _ _ _ _ c.with.ensures c.copy.ensures c.without-undecided.ensures ∙ ap (λ v. told_child v c.args.place) c.self.view_is in
    ap (λ v. is_member v s) is ∙ told_has c.args.self.now c.args.place s ∙ ap (λ side. is_member c.args.self.now s && is_on side (set.contains s c.args.place)) (sym c.in-Told.is)

pub returns-in-Left-clause-cube : goal.returns-in-Left-clause-cube
returns-in-Left-clause-cube c d cube =
    let is = same_cube _ _ _ _ _ _ c.copy-in-Left.ensures c.with-in-Left.ensures c.without-undecided.ensures ∙ ap (λ v. left_child v c.args.place) c.self.view_is in
    subst (IsCube d) (sym is) (left_cube d c.args.self.now c.args.place c.requires cube)

pub returns-in-Left-clause-members : goal.returns-in-Left-clause-members
returns-in-Left-clause-members c s =
    let is = same_cube _ _ _ _ _ _ c.copy-in-Left.ensures c.with-in-Left.ensures c.without-undecided.ensures ∙ ap (λ v. left_child v c.args.place) c.self.view_is in
    ap (λ v. is_member v s) is ∙ left_has c.args.self.now c.args.place s ∙ ap (λ side. is_member c.args.self.now s && is_on side (set.contains s c.args.place)) (sym c.in-Left.is)

use Rattle.std.proofs.Common.{◌≡◌, true, sym, ap, ◌∙◌, subst, ◌⊎◌}
use Rattle.mre_base.specs.Before.{is_before}
use Rattle.cube_kit.specs.Cubes.{is_member}
use Rattle.cube_kit.proofs.ApartLemmas.{told_is_member}
use Rattle.cube_kit.proofs.CubeLemmas.{told_is_first}
use Rattle.cube_kit.proofs.cube.Cube.least.Goals as goal

pub returns-clause-member : goal.returns-clause-member
returns-clause-member c =
    ap (is_member c.args.self.now) (c.copy.ensures ∙ ap (λ v. v.told) c.self.view_is) ∙ sym (ap (λ v. is_member v v.told) c.self.view_is) ∙ told_is_member _ c.self.invariant

pub returns-clause-first : goal.returns-clause-first
returns-clause-first c weights s heavy within is =
    subst (λ t. (t ≡ s) ⊎ (is_before weights t s ≡ true)) (sym (c.copy.ensures ∙ ap (λ v. v.told) c.self.view_is)) (told_is_first weights c.args.self.now s heavy within is)

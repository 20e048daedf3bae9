use Rattle.std.proofs.Common.{sym, ◌∙◌, arith}
use Rattle.cube_kit.proofs.ApartLemmas.{apart_none, apart_all}
use Rattle.cube_kit.proofs.cube.are_apart.Goals as goal

pub returns-then-has-2 : goal.returns-then-has-2
returns-then-has-2 c = apart_none c.args.one.now c.args.two.now c.loop-place.place (sym c.has.ensures ∙ c.if-has.true) (sym c.has-then-has.ensures ∙ c.if-has-2.true)

pub returns : goal.returns
returns c = apart_all c.args.one.now c.args.two.now (λ k there. c.loop-place.invariant k (omega (arith, (c.requires k there).1)) there)

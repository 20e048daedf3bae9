use Rattle.std.proofs.Common.{◌≤◌, length, take, sym, ap, ◌∙◌, arith}
use Rattle.mre_base.specs.Before.{numbers, weight}
use Rattle.cube_kit.proofs.OrderLemmas.{weight-narrow}
use Rattle.cube_kit.proofs.weights.Weights.total.Goals as goal

pub returns-clause-narrow : goal.returns-clause-narrow
returns-clause-narrow c d few within =
    let le : d ≤ length c.self.inside.weights = omega arith in
    c.sum_of.ensures ∙ sym (weight-narrow c.self.inside.weights d c.args.set.now le within) ∙ ap (λ ws. weight (take d ws) (numbers d c.args.set.now)) c.self.view_is

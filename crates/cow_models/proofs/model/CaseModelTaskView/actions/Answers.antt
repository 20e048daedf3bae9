use Rattle.std.proofs.Common.{length, ap, arith}
use Rattle.cow_models.specs.Models.{ModelMeaning}
use Rattle.cow_models.proofs.KeptRows.{kept_count}
use Rattle.cow_models.proofs.model.CaseModelTaskView.actions.Goals as goal

pub returns : goal.returns
returns c =
    let m = c.self.inside in
    omega (arith, kept_count m.atoms m.start m.goal m.count m.rows c.self.invariant, ap (λ (v : ModelMeaning). length v.task.actions) c.self.view_is)

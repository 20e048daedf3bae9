use Rattle.std.proofs.Common.{◌∙◌}
use Rattle.std.specs.Prelude.{nat_lt}
use Rattle.joint_models.proofs.Entries.{named_within}
use Rattle.joint_models.proofs.listed.Listed.has.Goals as goal

pub returns : goal.returns
returns c = (λ i. nat_lt (c.number.ensures i) (c.len.ensures i)) ∙ named_within c.args.self.now.entries c.args.name.now

use Rattle.std.proofs.Common.{subst}
use Rattle.mre_base.specs.Sets.{AreBelow}
use Rattle.mre_base.specs.Words.{has_bit}
use Rattle.mre_base.proofs.SetsBelow.{member_below}
use Rattle.mre_base.proofs.bits.Bits.width.Goals as goal

pub returns-clause-below : goal.returns-clause-below
returns-clause-below c = subst AreBelow c.self.view_is (λ i h. member_below (has_bit c.self.inside.words.items) c.self.inside.width i h)

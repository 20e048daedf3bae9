use Rattle.std.proofs.Common.{sym, ap, ◌∙◌}
use Rattle.std.specs.FinSet as set
use Rattle.relax_cuts.proofs.choosing.choose.Goals as goal

pub returns-then-is_above_0 : goal.returns-then-is_above_0
returns-then-is_above_0 g c =
    let among = c.in_ok-among.among.members in
    record {
      width = c.in_ok-among.ensures.width;
      cut_set = record {
        has_state = c.in_ok-among.ensures.spreads.grows;
        lacks_goal = sym (ap (λ b. set.is_subset b.members among) c.goal.ensures) ∙ sym c.is_subset.ensures ∙ c.if-is_subset.false;
        below = c.in_ok-among.ensures.spreads.below c.requires.below;
      };
      least = c.least_left-least.ensures;
      above = c.is_above_0.ensures c.if-is_above_0.true;
    }
